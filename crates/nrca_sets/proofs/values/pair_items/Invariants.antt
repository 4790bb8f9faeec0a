use Rattle.std.proofs.Common.{◌≡◌, map, take}
use Rattle.aql_value.specs.Meaning.{datum}
use Rattle.nrca_sets.specs.Pairs.{pair_value}
use Rattle.nrca_sets.proofs.values.pair_items.Given as goal

-- the values so far are the pairs so far
abbrev pub invariant-loop-pair : goal.invariant-loop-pair
invariant-loop-pair l = map datum l.items.items ≡ map pair_value (take l.pair-index l.pairs)
