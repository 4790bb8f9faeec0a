use Rattle.std.proofs.Common.{◌≡◌, map}
use Rattle.std.specs.Prelude.{replicate}
use Rattle.nrca_forms.specs.Indexing.{extent}
use Rattle.nrca_forms.proofs.index.zero_extents.Given as goal

abbrev pub invariant-loop-i : goal.invariant-loop-i
invariant-loop-i l = map extent l.dims.items ≡ replicate l._i 0
