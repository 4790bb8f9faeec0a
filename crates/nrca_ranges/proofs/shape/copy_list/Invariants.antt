use Rattle.std.proofs.Common.{◌≡◌, take}
use Rattle.nrca_ranges.specs.Shapes.{bounds_each}
use Rattle.nrca_ranges.proofs.shape.copy_list.Given as goal

abbrev pub invariant-loop-shape : goal.invariant-loop-shape
invariant-loop-shape l = bounds_each l.copied.items ≡ bounds_each (take l.shape-index l.shapes)
