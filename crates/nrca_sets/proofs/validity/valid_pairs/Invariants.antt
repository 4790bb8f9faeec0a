use Rattle.std.proofs.Common.{map, take}
use Rattle.aql_value.specs.Datum.{data_of}
use Rattle.aql_value.specs.Valid.{AreValues}
use Rattle.nrca_sets.specs.Pairs.{pair_value}
use Rattle.nrca_sets.proofs.validity.valid_pairs.Given as goal

-- the pairs so far are values
abbrev pub invariant-loop-pair : goal.invariant-loop-pair
invariant-loop-pair l = AreValues (data_of (take l.pair-index (map pair_value l.pairs)))
