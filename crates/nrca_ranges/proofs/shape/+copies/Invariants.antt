use Rattle.std.proofs.Common.{◌≡◌, take}
use Rattle.nrca_ranges.specs.Shapes.{bounds_each}
use Rattle.nrca_ranges.proofs.shape.+copies.Given as goal

abbrev pub invariant-copy_shapes-loop-shape : goal.invariant-copy_shapes-loop-shape
invariant-copy_shapes-loop-shape l = bounds_each l.copied.items ≡ bounds_each (take l.shape-index l.shape-items)
