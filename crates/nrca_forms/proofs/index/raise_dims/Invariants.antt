use Rattle.std.proofs.Common.{◌≡◌, suc, map, take}
use Rattle.aql_value.specs.Operations.{greater_each}
use Rattle.nrca_forms.specs.Indexing.{extent}
use Rattle.nrca_forms.proofs.index.raise_dims.Given as goal

abbrev pub invariant-loop-j : goal.invariant-loop-j
invariant-loop-j l = map extent l.all.items ≡ take l.j (greater_each (map suc l.at) (map extent l.dims))
