use Rattle.std.proofs.Common.{◌≡◌, map}
use Rattle.nrca_ranges.specs.Shapes.{bounds_each}
use Rattle.nrca_ranges.specs.Walk.{told_each}
use Rattle.nrca_ranges.proofs.walk.take_shapes.Given as goal

abbrev pub invariant-loop-told : goal.invariant-loop-told
invariant-loop-told l = bounds_each l.shapes.items ≡ map (λ s. s.shape) (told_each l.yielded)
