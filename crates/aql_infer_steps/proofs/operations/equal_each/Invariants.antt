use Rattle.std.proofs.Common.{◌≡◌, drop}
use Rattle.aql_infer_steps.specs.Constraints.{equate_each}
use Rattle.aql_infer_steps.specs.View.{sketch_type, state_of, types_in}
use Rattle.aql_infer_steps.proofs.operations.equal_each.Given as goal

abbrev pub invariant-loop-one : goal.invariant-loop-one
invariant-loop-one l =
    equate_each (types_in l.positions (drop l.one-index l.ts)) (sketch_type l.positions l.t) (state_of l.positions l.s) ≡ equate_each (types_in l.positions l.ts) (sketch_type l.positions l.t) (state_of l.positions l.fn.s)
