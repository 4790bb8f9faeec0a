use Rattle.std.proofs.Common.{◌≡◌, map}
use Rattle.aql_value.specs.Meaning.{datum}
use Rattle.nrca_array.specs.Held.{held_datum}
use Rattle.nrca_forms.proofs.operations.values.Given as goal

abbrev pub invariant-loop-part : goal.invariant-loop-part
invariant-loop-part l = map datum l.items.items ≡ map held_datum l.yielded
