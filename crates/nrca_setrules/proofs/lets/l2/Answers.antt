use Rattle.std.proofs.Common.{rules, ◌≡◌, ◌<◌, ◌^◌, sym, ap, subst, ◌∙◌}
use Rattle.nrca_term.specs.View.{term_of}
use Rattle.nrca_term.specs.Laws.WellFormed.{well_formed-Core}
use Rattle.nrca_term.specs.Subst.{subst_term, top_var}
use Rattle.nrca_setrules.proofs.Counts.{l2_right}
use Rattle.nrca_term.specs.Laws.AsVariant.{as-Let}
use Rattle.nrca_setrules.proofs.LetSides.{let_room}
use Rattle.nrca_setrules.proofs.lets.l2.Goals as goal

pub subst-requires : goal.subst-requires
subst-requires c =
    let b : c.in-Let.body.value ≡ c.into_inner.result = search rules in
    let w : c.in-Let.bound.value ≡ c.deref.result.now = search rules in
    subst (λ x. top_var (subst_term 0 (term_of x) (term_of c.into_inner.result)) < 2 ^ 64) w (subst (λ x. top_var (subst_term 0 (term_of c.in-Let.bound.value) (term_of x)) < 2 ^ 64) b
    (let_room (term_of c.args.term) (term_of c.in-Let.bound.value) (term_of c.in-Let.body.value) (as-Let c.args.term c.in-Let.bound c.in-Let.body c.in-Let.is) (well_formed-Core c.in-Let.bound.value) (well_formed-Core c.in-Let.body.value) c.requires.inside))

pub returns : goal.returns
returns c =
    let b : c.in-Let.body.value ≡ c.into_inner.result = search rules in
    let w : c.in-Let.bound.value ≡ c.deref.result.now = search rules in
    l2_right (term_of c.args.term) (term_of c.in-Let.bound.value) (term_of c.in-Let.body.value) _ c.requires.fits (as-Let c.args.term c.in-Let.bound c.in-Let.body c.in-Let.is)
    (c.in_ok-right-in-Let.ensures.substituted ∙ ap (λ x. subst_term 0 (term_of x) (term_of c.into_inner.result)) (sym w) ∙ ap (λ x. subst_term 0 (term_of c.in-Let.bound.value) (term_of x)) (sym b))
