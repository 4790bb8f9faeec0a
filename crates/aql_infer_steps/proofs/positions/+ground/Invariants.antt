use Rattle.std.proofs.Common.{◌≡◌, drop}
use Rattle.aql_ty.specs.View.{types_of}
use Rattle.aql_infer_steps.specs.Ground.{are_ground}
use Rattle.aql_infer_steps.proofs.positions.+ground.Given as goal

abbrev pub invariant-have_no_variable-loop-t : goal.invariant-have_no_variable-loop-t
invariant-have_no_variable-loop-t l = are_ground (types_of (drop l.t-index l.ts)) ≡ are_ground (types_of l.ts)
