use Rattle.std.proofs.Common.{◌≡◌, ◌++◌, drop}
use Rattle.aql_value.specs.Canon.{canon}
use Rattle.nrca_loops.specs.Walks.{both_rest}
use Rattle.nrca_loops.proofs.walk.sides_before.Given as goal

abbrev pub invariant-loop-i : goal.invariant-loop-i
invariant-loop-i l = both_rest l.left l.right l.sides.left l.sides.right ≡ drop l._i (canon (l.left ++ l.right))
