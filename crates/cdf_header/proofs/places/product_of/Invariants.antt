use Rattle.std.proofs.Common.{◌≡◌, ◌≤◌, ◌*◌, ◌^◌, ◌-◌, min, drop}
use Rattle.aql_value.specs.Indices.{product}
use Rattle.cdf_header.specs.Places.{lens}
use Rattle.cdf_header.proofs.places.product_of.Given as goal

abbrev pub invariant-ids : goal.invariant-ids
invariant-ids l = record {
  within : l.all ≤ 2 ^ 128 - 1;
  so_far : min (l.all * product (lens l.dims (drop l.k l.ids))) (2 ^ 128 - 1) ≡ min (product (lens l.dims l.ids)) (2 ^ 128 - 1);
}
