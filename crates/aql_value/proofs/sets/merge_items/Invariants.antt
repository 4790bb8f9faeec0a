use Rattle.std.proofs.Common.{◌+◌, ◌++◌, length}
use Rattle.std.specs.Vec.Iter.{into_iter_items}
use Rattle.aql_value.specs.Canon.{canon}
use Rattle.aql_value.proofs.Merging.{waiting, IsMerging}
use Rattle.aql_value.proofs.sets.merge_items.Given as goal

abbrev pub invariant-loop-x : goal.invariant-loop-x
invariant-loop-x l = IsMerging l.merged.items l.x (into_iter_items l.left) l.y (into_iter_items l.right) (canon (l.fn.a ++ l.fn.b))

abbrev pub decreases-loop-x : goal.decreases-loop-x
decreases-loop-x l = length (waiting l.x (into_iter_items l.left)) + length (waiting l.y (into_iter_items l.right))
