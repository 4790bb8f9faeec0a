use Rattle.std.proofs.Common.{◌≡◌, map, drop}
use Rattle.cdf_header.specs.Header.{var}
use Rattle.cdf_header.specs.Places.{find_from, find_in}
use Rattle.cdf_header.proofs.places.first_named.Given as goal

abbrev pub invariant-vars : goal.invariant-vars
invariant-vars l = find_in (map var l.vars) l.name ≡ find_from l.i (map var (drop l.i l.vars)) l.name
