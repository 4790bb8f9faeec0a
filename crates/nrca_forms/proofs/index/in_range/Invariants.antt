use Rattle.std.proofs.Common.{◌≡◌, true, map, take}
use Rattle.aql_value.specs.Operations.{all_in_range}
use Rattle.nrca_forms.specs.Indexing.{extent}
use Rattle.nrca_forms.proofs.index.in_range.Given as goal

abbrev pub invariant-loop-dim : goal.invariant-loop-dim
invariant-loop-dim l = (map extent (take l.dim-index l.dim-items) ≡ l.dims.items) × (all_in_range l.dims.items ≡ true)
