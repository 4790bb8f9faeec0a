use Rattle.std.proofs.Common.{◌≡◌, map, take}
use Rattle.aql_value.specs.Indices.{product}
use Rattle.aql_value.specs.Limits.{saturate}
use Rattle.nrca_ranges.specs.Intervals.{lows}
use Rattle.nrca_ranges.specs.Shapes.{bounds_each}
use Rattle.nrca_ranges.specs.Transfer.{interval_of}
use Rattle.nrca_ranges.proofs.certain.least_product.Given as goal

abbrev pub invariant-loop-dim : goal.invariant-loop-dim
invariant-loop-dim l = l.found ≡ saturate (product (lows (map interval_of (bounds_each (take l.dim-index l.dims)))))
