use Rattle.std.proofs.Common.{◌≡◌, map}
use Rattle.std.specs.Option.{option_map}
use Rattle.aql_value.specs.Operations.{as_natural}
use Rattle.aql_value.specs.Partial.{each}
use Rattle.nrca_array.specs.Held.{held_datum}
use Rattle.nrca_forms.proofs.operations.numbers.Given as goal

abbrev pub invariant-loop-part : goal.invariant-loop-part
invariant-loop-part l = option_map (λ v. v.items) l.dims ≡ each as_natural (map held_datum l.yielded)
