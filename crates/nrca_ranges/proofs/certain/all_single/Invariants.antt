use Rattle.std.proofs.Common.{◌≡◌, map, drop}
use Rattle.nrca_ranges.specs.Intervals.{all_single}
use Rattle.nrca_ranges.specs.Shapes.{bounds_each}
use Rattle.nrca_ranges.specs.Transfer.{interval_of}
use Rattle.nrca_ranges.proofs.certain.all_single.Given as goal

abbrev pub invariant-loop-i : goal.invariant-loop-i
invariant-loop-i l = all_single (map interval_of (bounds_each l.dims)) ≡ all_single (map interval_of (bounds_each (drop l.i l.dims)))
