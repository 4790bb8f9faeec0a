use Rattle.std.proofs.Common.{◌≡◌, drop}
use Rattle.nrca_ranges.specs.Certain.{all_below}
use Rattle.nrca_ranges.specs.Shapes.{bounds_each}
use Rattle.nrca_ranges.proofs.certain.all_below.Given as goal

abbrev pub invariant-loop-i : goal.invariant-loop-i
invariant-loop-i l = all_below l.dims (bounds_each l.at) ≡ all_below (drop l.i l.dims) (bounds_each (drop l.i l.at))
