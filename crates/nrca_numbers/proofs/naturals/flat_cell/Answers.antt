use Rattle.aql_value.specs.Indices.{cell}
use Rattle.aql_value.specs.Operations.{as_natural}
use Rattle.aql_value.specs.Partial.{each}
use Rattle.nrca_numbers.proofs.Cells.{flat_number}
use Rattle.nrca_numbers.proofs.naturals.flat_cell.Goals as goal

pub returns : goal.returns
returns c =
    flat_number c.natural_at.result (each as_natural c.args.flat.now.cells) (cell c.args.flat.now c.args.at.now) c.natural_at.ensures
