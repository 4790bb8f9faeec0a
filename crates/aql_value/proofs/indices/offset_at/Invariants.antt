use Rattle.std.proofs.Common.{◌≡◌, ◌+◌, ◌*◌, nat_lt, drop, true}
use Rattle.std.specs.Cmp.Lexicographic.{pointwise}
use Rattle.aql_value.specs.Indices.{product, offset}
use Rattle.aql_value.proofs.indices.offset_at.Given as goal

abbrev pub invariant-loop-j : goal.invariant-loop-j
invariant-loop-j l =
    (pointwise nat_lt (drop l.j l.at) (drop l.j l.dims) ≡ true)
    × (l.place * product (drop l.j l.dims) + offset (drop l.j l.dims) (drop l.j l.at) ≡ offset l.dims l.at)
