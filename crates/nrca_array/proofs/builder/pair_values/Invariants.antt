use Rattle.std.proofs.Common.{◌≡◌, map, take}
use Rattle.aql_value.specs.Meaning.{datum}
use Rattle.nrca_array.specs.Packing.{pair_datum}
use Rattle.nrca_array.specs.Kept.{paired_up}
use Rattle.nrca_array.proofs.builder.pair_values.Given as goal

abbrev pub invariant-loop-i : goal.invariant-loop-i
invariant-loop-i l = map datum l.items.items ≡ map pair_datum (take l.i (paired_up l.truths l.numbers))
