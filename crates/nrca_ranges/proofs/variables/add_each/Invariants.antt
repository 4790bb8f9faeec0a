use Rattle.std.proofs.Common.{◌≡◌, ◌++◌, take}
use Rattle.nrca_ranges.specs.Shapes.{bounds_each}
use Rattle.nrca_ranges.specs.Walk.{each_index}
use Rattle.nrca_ranges.proofs.variables.add_each.Given as goal

abbrev pub invariant-loop-bound : goal.invariant-loop-bound
invariant-loop-bound l = bounds_each l.shapes.items ≡ bounds_each l.initial.shapes.items ++ each_index (take l.bound-index l.told)
