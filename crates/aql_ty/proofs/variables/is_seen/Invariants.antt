use Rattle.std.proofs.Common.{◌≡◌, drop}
use Rattle.aql_ty.specs.Variables.{is_one_of}
use Rattle.aql_ty.proofs.variables.is_seen.Given as goal

abbrev pub invariant-loop-y : goal.invariant-loop-y
invariant-loop-y l = is_one_of l.x (drop l.y-index l.seen) ≡ is_one_of l.x l.seen
