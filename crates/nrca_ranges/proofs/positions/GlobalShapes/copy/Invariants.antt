use Rattle.std.proofs.Common.{◌≡◌, map, take}
use Rattle.nrca_ranges.specs.Shapes.{bounds_there}
use Rattle.nrca_ranges.proofs.positions.GlobalShapes.copy.Given as goal

abbrev pub invariant-loop-shape : goal.invariant-loop-shape
invariant-loop-shape l = map bounds_there l.shapes.items ≡ map bounds_there (take l.shape-index l.shape-items)
