use Rattle.std.proofs.Common.{◌≡◌, ◌≤◌, ◌+◌, ◌*◌, Some, drop, length}
use Rattle.aql_types.specs.Forms.{forms}
use Rattle.aql_types.specs.Extents.{together, extent, IsMemo}
use Rattle.aql_types.proofs.measure.+extent.Given as goal

abbrev pub decreases-extent : goal.decreases-extent
decreases-extent l = 3 * l.left

abbrev pub decreases-extent_here : goal.decreases-extent_here
decreases-extent_here l = 3 * l.left + 2

abbrev pub decreases-extent_together : goal.decreases-extent_together
decreases-extent_together l = 3 * l.left + 1

abbrev pub invariant-extent_together-loop-i : goal.invariant-extent_together-loop-i
invariant-extent_together-loop-i l = record {
  below : l.i ≤ length l.row;
  total : together l.most (extent l.most l.left (forms l.ps l.ns)) (drop l.i l.row) ≡ Some l.total;
  memo : IsMemo l.most l.memo (forms l.ps l.ns);
}

abbrev pub decreases-extent_together-loop-i : goal.decreases-extent_together-loop-i
decreases-extent_together-loop-i l = l.i
