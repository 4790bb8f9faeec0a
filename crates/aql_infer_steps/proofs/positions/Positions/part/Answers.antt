use Rattle.std.proofs.Common.{◌≡◌, ◌∙◌, ap, sym, subst, MatchOption}
use Rattle.aql_ty.specs.Types.{natural}
use Rattle.aql_ty.specs.View.{type_of, sort_of}
use Rattle.aql_infer_steps.specs.View.{part_of, sort_at}
use Rattle.aql_infer_steps.specs.declared.positions.Position.{Position}
use Rattle.aql_infer_steps.proofs.Sketching.{sort_here, part_none}
use Rattle.aql_infer_steps.proofs.positions.Positions.part.Goals as goal

pub returns-in-Some : goal.returns-in-Some
returns-in-Some c =
    subst (λ s. MatchOption c.scheme_part.result (part_of c.args.i.part s ≡ natural) (λ t. part_of c.args.i.part s ≡ type_of t.now))
    (sym (ap (λ ps. sort_at ps c.args.i.position) (sym (c.deref.ensures.value ∙ c.self.view_is))
    ∙ sort_here c.deref.result.now c.args.i.position c.in-Some.p.now c.in-Some.ensures.lookup.3.0
    ∙ ap (λ (p : Position). sort_of p.scheme) (sym c.in-Some.ensures.lookup.1)))
    c.scheme_part.ensures

pub returns-in-None : goal.returns-in-None
returns-in-None c =
    ap (λ ps. part_of c.args.i.part (sort_at ps c.args.i.position)) (sym (c.deref.ensures.value ∙ c.self.view_is))
    ∙ part_none c.deref.result.now c.args.i c.in-None.ensures.lookup.3
