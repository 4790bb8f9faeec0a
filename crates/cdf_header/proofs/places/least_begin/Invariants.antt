use Rattle.std.proofs.Common.{◌≡◌, map, drop}
use Rattle.cdf_header.specs.Header.{var}
use Rattle.cdf_header.specs.Places.{least}
use Rattle.cdf_header.proofs.Least.{merged}
use Rattle.cdf_header.proofs.places.least_begin.Given as goal

abbrev pub invariant-vars : goal.invariant-vars
invariant-vars l = merged l.found (least l.dims (map var (drop l.v-index l.vars))) ≡ least l.dims (map var l.vars)
