use Rattle.std.proofs.Common.{◌≡◌, drop}
use Rattle.aql_ty.specs.Types.{append, apply_all}
use Rattle.aql_ty.specs.View.{types_of}
use Rattle.aql_types.specs.Answers.{subst_of}
use Rattle.aql_infer_steps.specs.View.{sketch_types}
use Rattle.aql_infer_steps.proofs.numbering.+write_type.Given as goal

abbrev pub invariant-write_types-loop-t : goal.invariant-write_types-loop-t
invariant-write_types-loop-t l =
    append (types_of l.made.items) (apply_all (subst_of l.solution) (sketch_types l.positions (drop l.t-index l.ts)))
    ≡ apply_all (subst_of l.solution) (sketch_types l.positions l.ts)
