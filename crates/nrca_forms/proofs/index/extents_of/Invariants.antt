use Rattle.std.proofs.Common.{◌≡◌, ◌-◌, length, map, drop}
use Rattle.aql_value.specs.Operations.{dims_above}
use Rattle.nrca_forms.specs.Indexing.{extent, pair_of}
use Rattle.nrca_forms.proofs.index.extents_of.Given as goal

abbrev pub invariant-loop-k : goal.invariant-loop-k
invariant-loop-k l = map extent l.dims.items ≡ dims_above l.rank (map (λ p. p.0) (map pair_of (drop (length l.pairs - l.k) l.pairs)))
