use Rattle.nrca_numbers.proofs.Arms.{found_as}
use Rattle.nrca_numbers.proofs.Over.{row_column}
use Rattle.nrca_numbers.proofs.runs.row_over.Goals as goal

pub returns : goal.returns
returns c =
    found_as c.numbers_over.result _ _ c.numbers_over.ensures
    (λ xs k. row_column c.args.globals.now c.args.env.now c.args.body.now c.args.outer.now c.args.column.now xs.items k.0 k.1)
