use Rattle.std.proofs.Common.{◌≡◌, ◌∙◌, ap, sym, subst, IfOk}
use Rattle.aql_ty.specs.Types.{apply}
use Rattle.aql_ty.specs.View.{type_of}
use Rattle.aql_types.specs.Answers.{subst_of}
use Rattle.aql_infer_steps.specs.Constraints.{raise_variables}
use Rattle.aql_infer_steps.proofs.Sketching.{shift_raised}
use Rattle.aql_infer_steps.proofs.numbering.write_instance.Goals as goal

pub returns-in-Some : goal.returns-in-Some
returns-in-Some c =
    subst (λ x. IfOk c.apply_raised.result (λ made. type_of made ≡ apply (subst_of c.args.solution.now) x))
    (shift_raised c.args.i.first (type_of c.in-Some.t.now) ∙ ap (apply (raise_variables c.args.i.first)) (sym c.in-Some.ensures)) c.apply_raised.ensures
