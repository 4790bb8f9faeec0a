use Rattle.std.proofs.Common.{◌≤◌, ◌-◌, [], length}
use Rattle.cdf_header.specs.Format.{many, id}
use Rattle.cdf_header.proofs.Loops.{SoFar}
use Rattle.cdf_header.proofs.lists.id_list.Given as goal

abbrev pub invariant-items : goal.invariant-items
invariant-items l = record {
  within : l.place ≤ length l.front.bytes.now;
  so_far : SoFar (many (id l.front.version l.dims.lengths.now) l.count []) l.at (many (id l.front.version l.dims.lengths.now) (l.count - l.counter) (l.found.items)) l.front.bytes.now l.place;
}
