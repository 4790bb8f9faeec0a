use Rattle.std.proofs.Common.{◌≡◌, [], map}
use Rattle.std.specs.Prelude.{replicate}
use Rattle.nrca_forms.specs.Indexing.{values_of}
use Rattle.nrca_forms.proofs.index.empty_groups.Given as goal

abbrev pub invariant-loop-i : goal.invariant-loop-i
invariant-loop-i l = map values_of l.groups.items ≡ replicate l._i []
