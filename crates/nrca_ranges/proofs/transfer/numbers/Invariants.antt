use Rattle.std.proofs.Common.{◌≡◌, map, take}
use Rattle.nrca_ranges.specs.Bounds.{number}
use Rattle.nrca_ranges.specs.Shapes.{bounds_each}
use Rattle.nrca_ranges.proofs.transfer.numbers.Given as goal

abbrev pub invariant-loop-interval : goal.invariant-loop-interval
invariant-loop-interval l = bounds_each l.items.items ≡ map number (take l.interval-index l.interval-items)
