use Rattle.std.proofs.Common.{◌≡◌, ◌++◌, take, drop, length}
use Rattle.nrca_ranges.specs.Intervals.{hulls}
use Rattle.nrca_ranges.proofs.operations.widen.Given as goal

abbrev pub invariant-loop-i : goal.invariant-loop-i
invariant-loop-i l = record {
  long : length l.a.items ≡ length l.fn.a.items;
  wide : l.a.items ≡ hulls (take l.i l.fn.a.items) (take l.i l.b) ++ drop l.i l.fn.a.items;
}
