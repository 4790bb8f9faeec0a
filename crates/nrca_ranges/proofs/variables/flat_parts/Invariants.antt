use Rattle.std.proofs.Common.{◌≡◌, map, take}
use Rattle.nrca_ranges.specs.Shapes.{bounds_each}
use Rattle.nrca_ranges.specs.Transfer.{flat}
use Rattle.nrca_ranges.proofs.variables.flat_parts.Given as goal

abbrev pub invariant-loop-shape : goal.invariant-loop-shape
invariant-loop-shape l = bounds_each l.flattened.items ≡ map flat (bounds_each (take l.shape-index l.shape-items))
