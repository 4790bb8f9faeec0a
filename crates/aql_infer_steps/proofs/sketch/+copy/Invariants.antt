use Rattle.std.proofs.Common.{◌≡◌, drop}
use Rattle.aql_ty.specs.Types.{append}
use Rattle.aql_infer_steps.specs.View.{sketch_types}
use Rattle.aql_infer_steps.proofs.sketch.+copy.Given as goal

abbrev pub invariant-copy_all-loop-t : goal.invariant-copy_all-loop-t
invariant-copy_all-loop-t l =
    append (sketch_types l.positions l.made.items) (sketch_types l.positions (drop l.t-index l.ts)) ≡ sketch_types l.positions l.ts
