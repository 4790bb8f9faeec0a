use Rattle.std.proofs.Common.{◌≡◌, map, take}
use Rattle.nrca_ranges.specs.Shapes.{bounds_each}
use Rattle.nrca_ranges.specs.Transfer.{interval_of}
use Rattle.nrca_ranges.proofs.transfer.intervals_of.Given as goal

abbrev pub invariant-loop-shape : goal.invariant-loop-shape
invariant-loop-shape l = l.items.items ≡ map interval_of (bounds_each (take l.shape-index l.shapes))
