use Rattle.std.proofs.Common.{◌≤◌, ◌-◌, length}
use Rattle.cdf_header.specs.Format.{times, attribute}
use Rattle.cdf_header.proofs.Loops.{SoFar}
use Rattle.cdf_header.proofs.lists.attribute_list.Given as goal

abbrev pub invariant-items : goal.invariant-items
invariant-items l = record {
  within : l.place ≤ length l.front.bytes.now;
  so_far : SoFar (times (attribute l.front.version) l.count) l.at (times (attribute l.front.version) (l.count - l.counter)) l.front.bytes.now l.place;
}
