use Rattle.std.proofs.Common.{◌≡◌, drop}
use Rattle.cdf_header.specs.Format.{record_of, record_from}
use Rattle.cdf_header.proofs.dimensions.record_in.Given as goal

abbrev pub invariant-dims : goal.invariant-dims
invariant-dims l = record {
  at : l.i ≡ l.len-index;
  so_far : record_of l.lengths ≡ record_from l.i (drop l.len-index l.lengths);
}
