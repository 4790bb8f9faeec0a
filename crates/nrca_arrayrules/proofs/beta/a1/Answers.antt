use Rattle.std.proofs.Common.{rules, ◌≡◌, length, ap, subst, ◌∙◌}
use Rattle.nrca_term.specs.Nodes.{tab_term}
use Rattle.nrca_term.specs.Rules.{guard}
use Rattle.nrca_term.specs.Term.{WellFormed}
use Rattle.nrca_term.specs.View.{term_of, terms_of}
use Rattle.nrca_term.specs.declared.term.Core.TheVariants as core
use Rattle.nrca_term.specs.Laws.AsVariant.{as-Sub, as-Tab}
use Rattle.nrca_term.specs.Laws.Equations.{term_of-Tuple}
use Rattle.nrca_term.specs.Laws.WellFormed.{well_formed-Core}
use Rattle.nrca_arrayrules.proofs.BetaSides.{a1_right, bounds-room, indices-room}
use Rattle.nrca_arrayrules.proofs.beta.a1.Goals as goal

pub guard-requires : goal.guard-requires
guard-requires c =
    let h = as-Sub c.args.term c.in-Sub.array c.in-Sub.at c.in-Sub.is in
    let k : term_of c.in-Sub.array.value ≡ tab_term (terms_of c.in-Tab.bounds) (term_of c.in-Tab.body.value) = as-Tab c.in-Sub.array.value c.in-Tab.bounds c.in-Tab.body (search rules) in
    bounds-room (term_of c.args.term) (term_of c.in-Sub.array.value) (term_of c.in-Tab.body.value) (terms_of c.in-Tab.bounds) (terms_of c.in-Sub.at) h k (subst WellFormed (term_of-Tuple c.in-Tab.bounds) (well_formed-Core (core.Tuple c.in-Tab.bounds))) c.requires.inside

pub bind-requires : goal.bind-requires
bind-requires c =
    let h = as-Sub c.args.term c.in-Sub.array c.in-Sub.at c.in-Sub.is in
    let k : term_of c.in-Sub.array.value ≡ tab_term (terms_of c.in-Tab.bounds) (term_of c.in-Tab.body.value) = as-Tab c.in-Sub.array.value c.in-Tab.bounds c.in-Tab.body (search rules) in
    indices-room (term_of c.args.term) (term_of c.in-Sub.array.value) (term_of c.in-Tab.body.value) (terms_of c.in-Tab.bounds) (terms_of c.in-Sub.at) h k (subst WellFormed (term_of-Tuple c.in-Sub.at) (well_formed-Core (core.Tuple c.in-Sub.at))) c.requires.inside c.requires.fits

pub returns : goal.returns
returns c =
    let h = as-Sub c.args.term c.in-Sub.array c.in-Sub.at c.in-Sub.is in
    let k : term_of c.in-Sub.array.value ≡ tab_term (terms_of c.in-Tab.bounds) (term_of c.in-Tab.body.value) = as-Tab c.in-Sub.array.value c.in-Tab.bounds c.in-Tab.body (search rules) in
    let p : term_of c.in_ok-tested-in-Tab.tested ≡ guard (length (terms_of c.in-Tab.bounds)) (terms_of c.in-Tab.bounds) (term_of c.in-Tab.body.value) =
    c.in_ok-tested-in-Tab.ensures ∙ ap (λ x. guard (length (terms_of c.in-Tab.bounds)) (terms_of c.in-Tab.bounds) (term_of x)) c.into_inner-in-Tab.ensures in
    a1_right (term_of c.args.term) (term_of c.in-Sub.array.value) (term_of c.in-Tab.body.value) (term_of c.in_ok-right-in-Tab.right) (term_of c.in_ok-tested-in-Tab.tested) (terms_of c.in-Tab.bounds) (terms_of c.in-Sub.at) h k c.requires.fits p c.in_ok-right-in-Tab.ensures
