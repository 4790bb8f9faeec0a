use Rattle.std.proofs.Common.{rules, ◌≡◌, ◌<◌, ◌^◌, ap, subst, ◌∙◌, sym}
use Rattle.nrca_term.specs.Nodes.{let_term}
use Rattle.nrca_term.specs.Subst.{subst_term, top_var}
use Rattle.nrca_term.specs.View.{term_of}
use Rattle.nrca_term.specs.Laws.Equations.{term_of-Let, term_of-Bottom}
use Rattle.nrca_term.specs.Laws.WellFormed.{well_formed-Core}
use Rattle.nrca_term.specs.declared.trace.Rule.TheVariants.{L3}
use Rattle.nrca_rule_laws.specs.Fitting.{IsRight}
use Rattle.nrca_setrules.proofs.LetSides.{body_room, unused-right, let_unused}
use Rattle.nrca_setrules.proofs.lets.l3.Goals as goal

pub subst-requires : goal.subst-requires
subst-requires c =
    let b : c.in-Let.body.value ≡ c.into_inner.result = search rules in
    let e = ap term_of c.in-Let.is ∙ term_of-Let c.in-Let.field-0 c.in-Let.body ∙ ap (λ x. let_term (term_of c.in-Let.field-0.value) (term_of x)) b in
    subst (λ w. top_var (subst_term 0 w (term_of c.into_inner.result)) < 2 ^ 64) (sym term_of-Bottom)
    (body_room (term_of c.args.term) (term_of c.in-Let.field-0.value) (term_of c.into_inner.result) e (well_formed-Core c.into_inner.result) c.requires.inside)

pub returns : goal.returns
returns c =
    let b : c.in-Let.body.value ≡ c.into_inner.result = search rules in
    let e = ap term_of c.in-Let.is ∙ term_of-Let c.in-Let.field-0 c.in-Let.body ∙ ap (λ x. let_term (term_of c.in-Let.field-0.value) (term_of x)) b in
    let u = let_unused (term_of c.args.term) (term_of c.in-Let.field-0.value) (term_of c.into_inner.result) e c.requires.fits in
    subst (IsRight L3 (term_of c.args.term)) (sym c.in_ok-right-in-Let.ensures.substituted)
    (unused-right (term_of c.args.term) (term_of c.in-Let.field-0.value) (term_of c.into_inner.result) _ e (well_formed-Core c.into_inner.result) u)
