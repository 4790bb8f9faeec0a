use Rattle.std.proofs.Common.{◌≡◌, ◌≤◌, ◌^◌, ◌-◌, min, drop}
use Rattle.aql_value.specs.Indices.{offset}
use Rattle.aql_value.specs.Laws.Saturation.{horner}
use Rattle.cdf_header.specs.Places.{lens}
use Rattle.cdf_header.proofs.places.offset_of.Given as goal

abbrev pub invariant-ids : goal.invariant-ids
invariant-ids l = record {
  within : l.all ≤ 2 ^ 128 - 1;
  so_far : min (horner l.all (lens l.dims (drop l.k l.ids)) (drop l.k l.at)) (2 ^ 128 - 1) ≡ min (offset (lens l.dims l.ids) l.at) (2 ^ 128 - 1);
}
