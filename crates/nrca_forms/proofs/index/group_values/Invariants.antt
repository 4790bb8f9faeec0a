use Rattle.std.proofs.Common.{◌≡◌, map}
use Rattle.aql_value.specs.Indices.{indices}
use Rattle.aql_value.specs.Operations.{values_at}
use Rattle.nrca_forms.specs.Indexing.{pair_of, values_of}
use Rattle.nrca_forms.proofs.index.group_values.Given as goal

abbrev pub invariant-loop-pair : goal.invariant-loop-pair
invariant-loop-pair l = map values_of l.groups.items ≡ map (λ at. values_at at (map pair_of l.yielded)) (indices l.dims)
