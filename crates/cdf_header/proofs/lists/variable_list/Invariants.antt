use Rattle.std.proofs.Common.{◌≤◌, ◌-◌, [], length, map}
use Rattle.cdf_header.specs.Header.{var}
use Rattle.cdf_header.specs.Format.{many, variable}
use Rattle.cdf_header.proofs.Loops.{SoFar}
use Rattle.cdf_header.proofs.lists.variable_list.Given as goal

abbrev pub invariant-items : goal.invariant-items
invariant-items l = record {
  within : l.place ≤ length l.front.bytes.now;
  so_far : SoFar (many (variable l.front.version l.dims.lengths.now) l.count []) l.at (many (variable l.front.version l.dims.lengths.now) (l.count - l.counter) (map var l.found.items)) l.front.bytes.now l.place;
}
