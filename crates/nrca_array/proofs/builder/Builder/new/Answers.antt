use Rattle.std.proofs.Common.{map, ap}
use Rattle.aql_value.specs.Meaning.{datum}
use Rattle.nrca_array.proofs.CellKinds.{no_cells}
use Rattle.nrca_array.proofs.builder.Builder.new.Goals as goal

pub invariant_of-result : goal.invariant_of-result
invariant_of-result c = no_cells _ (ap (map datum) c.new.ensures.items)
