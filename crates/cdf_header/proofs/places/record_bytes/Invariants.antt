use Rattle.std.proofs.Common.{◌≡◌, ◌≤◌, ◌+◌, ◌^◌, ◌-◌, map, min, drop}
use Rattle.cdf_header.specs.Places.{record_count, plain_sum, padded_sum}
use Rattle.cdf_header.specs.Header.{var}
use Rattle.cdf_header.proofs.places.record_bytes.Given as goal

abbrev pub invariant-vars : goal.invariant-vars
invariant-vars l = record {
  within : l.plain ≤ 2 ^ 128 - 1;
  within_all : l.all ≤ 2 ^ 128 - 1;
  count : min (l.count + record_count l.dims (map var (drop l.v-index l.vars))) (2 ^ 64 - 1) ≡ min (record_count l.dims (map var l.vars)) (2 ^ 64 - 1);
  plain : min (l.plain + plain_sum l.dims (map var (drop l.v-index l.vars))) (2 ^ 128 - 1) ≡ min (plain_sum l.dims (map var l.vars)) (2 ^ 128 - 1);
  all : min (l.all + padded_sum l.dims (map var (drop l.v-index l.vars))) (2 ^ 128 - 1) ≡ min (padded_sum l.dims (map var l.vars)) (2 ^ 128 - 1);
}
