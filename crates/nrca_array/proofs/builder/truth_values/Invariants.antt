use Rattle.std.proofs.Common.{◌≡◌, map, take}
use Rattle.aql_value.specs.Datum.{truth}
use Rattle.aql_value.specs.Meaning.{datum}
use Rattle.nrca_array.proofs.builder.truth_values.Given as goal

abbrev pub invariant-loop-i : goal.invariant-loop-i
invariant-loop-i l = map datum l.items.items ≡ map truth (take l.i l.truths)
