use Rattle.std.proofs.Common.{◌≡◌, ◌+◌, drop}
use Rattle.cdf_header.specs.Places.{variable_at, shape}
use Rattle.cdf_slab.specs.Slab.{first_outside}
use Rattle.cdf_slab.proofs.faults.outside_dimension.Given as goal

abbrev pub invariant-dimensions : goal.invariant-dimensions
invariant-dimensions l =
    first_outside (l.j + 1) (drop l.j (shape l.header (variable_at l.header l.v))) (drop l.j l.start) (drop l.j l.count) (drop l.j l.stride)
    ≡ first_outside 1 (shape l.header (variable_at l.header l.v)) l.start l.count l.stride
