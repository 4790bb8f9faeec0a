use Rattle.std.proofs.Common.{◌≡◌, map}
use Rattle.aql_value.specs.Operations.{set_of}
use Rattle.nrca_forms.specs.Indexing.{values_of}
use Rattle.nrca_forms.proofs.index.sets_of.Given as goal

abbrev pub invariant-loop-items : goal.invariant-loop-items
invariant-loop-items l = l.cells ≡ map (λ g. set_of (values_of g)) l.yielded
