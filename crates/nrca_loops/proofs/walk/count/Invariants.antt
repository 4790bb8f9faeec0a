use Rattle.std.proofs.Common.{◌≡◌, ◌+◌, ◌++◌, length}
use Rattle.aql_value.specs.Canon.{canon}
use Rattle.nrca_loops.specs.Walks.{both_rest}
use Rattle.nrca_loops.proofs.walk.count.Given as goal

abbrev pub invariant-loop-taken : goal.invariant-loop-taken
invariant-loop-taken l = l.count + length (both_rest l.left l.right l.i l.j) ≡ length (canon (l.left ++ l.right))

abbrev pub decreases-loop-taken : goal.decreases-loop-taken
decreases-loop-taken l = length (both_rest l.left l.right l.i l.j)
