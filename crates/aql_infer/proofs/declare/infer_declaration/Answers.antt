use Rattle.std.proofs.Common.{ap, sym, ◌∙◌}
use Rattle.aql_types.specs.Answers.{subst_of}
use Rattle.aql_syntax.specs.View.{decl_of}
use Rattle.aql_infer_steps.specs.Constraints.{make_decl}
use Rattle.aql_infer_steps.specs.View.{draft_sort, state_of, schemes_of}
use Rattle.aql_infer.proofs.Inferring.{solved}
use Rattle.aql_infer.proofs.declare.infer_declaration.Goals as goal

pub returns-in-Ok : goal.returns-in-Ok
returns-in-Ok c =
    solved (decl_of c.args.d.now) (schemes_of c.args.positions.now) (draft_sort c.args.positions.now c.in_ok-draft.draft) (state_of c.args.positions.now c.in_ok-draft.s)
    (subst_of c.in-Ok.solution) c.instance_of-scheme.result c.sort_of_expression.result
    (sym (ap (make_decl (decl_of c.args.d.now) (schemes_of c.args.positions.now)) c.begin.ensures) ∙ c.in_ok-draft.ensures)
    c.in-Ok.ensures.best c.instance_of-scheme.ensures c.sort_of_expression.ensures
