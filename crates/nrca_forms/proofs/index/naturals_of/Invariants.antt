use Rattle.std.proofs.Common.{◌≡◌, map, take, Some}
use Rattle.aql_value.specs.Meaning.{datum}
use Rattle.aql_value.specs.Operations.{as_natural}
use Rattle.aql_value.specs.Partial.{each}
use Rattle.nrca_forms.proofs.index.naturals_of.Given as goal

abbrev pub invariant-loop-part : goal.invariant-loop-part
invariant-loop-part l = each as_natural (map datum (take l.part-index l.part-items)) ≡ Some l.dims.items
