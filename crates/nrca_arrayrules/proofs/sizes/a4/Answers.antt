use Rattle.std.proofs.Common.{rules, ◌≡◌, arith, ap, subst, ◌∙◌}
use Rattle.nrca_term.specs.Nodes.{tab_term}
use Rattle.nrca_term.specs.Rules.{replace_dims, sizes_term}
use Rattle.nrca_term.specs.Subst.{shift_term, top_var}
use Rattle.nrca_term.specs.Term.{WellFormed, weight_of}
use Rattle.nrca_term.specs.View.{term_of, terms_of}
use Rattle.nrca_term.specs.declared.term.Core.TheVariants as core
use Rattle.nrca_term.specs.Laws.AsVariant.{as-Let, as-Tab}
use Rattle.nrca_term.specs.Laws.Equations.{term_of-Let, term_of-Tuple}
use Rattle.nrca_term.specs.Laws.WellFormed.{well_formed-Core}
use Rattle.nrca_arrayrules.proofs.SizeSides.{a4_right, size-room, body-room}
use Rattle.nrca_arrayrules.proofs.sizes.a4.Goals as goal

pub shift-size-requires : goal.shift-size-requires
shift-size-requires c =
    let ds = terms_of c.in-Tab.bounds in
    let h = as-Let c.args.term c.in-Let.bound c.in-Let.body c.in-Let.is in
    let k : term_of c.in-Let.bound.value ≡ tab_term ds (term_of c.in-Tab.cell.value) = as-Tab c.in-Let.bound.value c.in-Tab.bounds c.in-Tab.cell (search rules) in
    let w = subst WellFormed (term_of-Tuple c.in-Tab.bounds) (well_formed-Core (core.Tuple c.in-Tab.bounds)) in
    let e : term_of c.sizes.result ≡ sizes_term ds = c.sizes.ensures ∙ ap sizes_term c.in_ok-kept-in-Tab.ensures.copied in
    omega (arith, ap (λ x. top_var (shift_term 0 1 x)) e, size-room (term_of c.args.term) (term_of c.in-Let.bound.value) (term_of c.in-Tab.cell.value) (term_of c.in-Let.body.value) ds h k w c.requires.inside)

pub replace-requires : goal.replace-requires
replace-requires c =
    let ds = terms_of c.in-Tab.bounds in
    let h = as-Let c.args.term c.in-Let.bound c.in-Let.body c.in-Let.is in
    let k : term_of c.in-Let.bound.value ≡ tab_term ds (term_of c.in-Tab.cell.value) = as-Tab c.in-Let.bound.value c.in-Tab.bounds c.in-Tab.cell (search rules) in
    let w = subst WellFormed (term_of-Tuple c.in-Tab.bounds) (well_formed-Core (core.Tuple c.in-Tab.bounds)) in
    let e : term_of c.sizes.result ≡ sizes_term ds = c.sizes.ensures ∙ ap sizes_term c.in_ok-kept-in-Tab.ensures.copied in
    let s : term_of c.shift-size.result ≡ shift_term 0 1 (sizes_term ds) = c.shift-size.ensures.shifted ∙ ap (shift_term 0 1) e in
    let p : term_of c.open-place.result.1 ≡ term_of c.in-Let.body.value = ap term_of c.open-place.ensures in
    omega (arith, ap top_var s, ap weight_of p, body-room (term_of c.args.term) (term_of c.in-Let.bound.value) (term_of c.in-Tab.cell.value) (term_of c.in-Let.body.value) ds h k w c.requires.inside)

pub returns : goal.returns
returns c =
    let ds = terms_of c.in-Tab.bounds in
    let h = as-Let c.args.term c.in-Let.bound c.in-Let.body c.in-Let.is in
    let k : term_of c.in-Let.bound.value ≡ tab_term ds (term_of c.in-Tab.cell.value) = as-Tab c.in-Let.bound.value c.in-Tab.bounds c.in-Tab.cell (search rules) in
    let e : term_of c.sizes.result ≡ sizes_term ds = c.sizes.ensures ∙ ap sizes_term c.in_ok-kept-in-Tab.ensures.copied in
    let s : term_of c.shift-size.result ≡ shift_term 0 1 (sizes_term ds) = c.shift-size.ensures.shifted ∙ ap (shift_term 0 1) e in
    let p : term_of c.open-place.result.1 ≡ term_of c.in-Let.body.value = ap term_of c.open-place.ensures in
    let u : term_of c.put-bound.result.value ≡ tab_term ds (term_of c.in-Tab.cell.value) =
    as-Tab c.put-bound.result.value c.in_ok-kept-in-Tab.kept c.in-Tab.cell c.put-bound.ensures ∙ ap (λ xs. tab_term xs (term_of c.in-Tab.cell.value)) c.in_ok-kept-in-Tab.ensures.kept in
    let v : term_of c.put-body.result.value ≡ replace_dims 0 (shift_term 0 1 (sizes_term ds)) (term_of c.in-Let.body.value) =
    ap term_of c.put-body.ensures ∙ c.in_ok-made-in-Tab.ensures ∙ ap (λ x. replace_dims 0 x (term_of c.open-place.result.1)) s ∙ ap (replace_dims 0 (shift_term 0 1 (sizes_term ds))) p in
    a4_right (term_of c.args.term) (term_of c.in-Let.bound.value) (term_of c.in-Tab.cell.value) (term_of c.in-Let.body.value) _ (term_of c.put-bound.result.value) (term_of c.put-body.result.value) ds h k c.requires.fits (term_of-Let c.put-bound.result c.put-body.result) u v
