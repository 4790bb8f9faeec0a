use Rattle.std.proofs.Common.{◌≡◌, map, take}
use Rattle.aql_value.specs.Datum.{natural}
use Rattle.aql_value.specs.Meaning.{datum}
use Rattle.aql_value.proofs.made.naturals.Given as goal

abbrev pub invariant-loop-n : goal.invariant-loop-n
invariant-loop-n l = map datum l.items.items ≡ map natural (take l.n-index l.numbers)
