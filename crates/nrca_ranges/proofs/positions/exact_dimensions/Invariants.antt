use Rattle.std.proofs.Common.{◌≡◌, take, map}
use Rattle.nrca_ranges.specs.Exact.{only}
use Rattle.nrca_ranges.proofs.positions.exact_dimensions.Given as goal

abbrev pub invariant-loop-d : goal.invariant-loop-d
invariant-loop-d l = l.items.items ≡ map only (take l.d-index l.d-items)
