use Rattle.std.proofs.Common.{◌≡◌, ◌≤◌, ◌-◌, [], length}
use Rattle.cdf_header.specs.Format.{many, dimension}
use Rattle.cdf_header.proofs.Loops.{SoFar}
use Rattle.cdf_header.proofs.lists.dimensions.Given as goal

abbrev pub invariant-items : goal.invariant-items
invariant-items l = record {
  within : l.place ≤ length l.front.bytes.now;
  few : length l.found.items ≡ l.counter;
  so_far : SoFar (many (dimension l.front.version) l.count []) l.at (many (dimension l.front.version) (l.count - l.counter) l.found.items) l.front.bytes.now l.place;
}
