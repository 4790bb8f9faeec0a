use Rattle.std.proofs.Common.{◌≡◌, min, take}
use Rattle.aql_value.specs.Indices.{product}
use Rattle.aql_value.proofs.indices.saturating_product.Given as goal

-- the product of the dimensions so far, or the greatest number
abbrev pub invariant-loop-d : goal.invariant-loop-d
invariant-loop-d l = l.all ≡ min (product (take l.d-index l.dims)) 340282366920938463463374607431768211455
