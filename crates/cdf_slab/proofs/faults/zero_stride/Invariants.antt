use Rattle.std.proofs.Common.{◌≡◌, ◌+◌, drop}
use Rattle.cdf_slab.specs.Slab.{first_zero}
use Rattle.cdf_slab.proofs.faults.zero_stride.Given as goal

abbrev pub invariant-strides : goal.invariant-strides
invariant-strides l = first_zero (l.j + 1) (drop l.j l.stride) ≡ first_zero 1 l.stride
