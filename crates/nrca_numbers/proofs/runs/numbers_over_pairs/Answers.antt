use Rattle.nrca_numbers.proofs.Arms.{found_as}
use Rattle.nrca_numbers.proofs.Over.{over_column}
use Rattle.aql_value.specs.Datum.{natural}
use Rattle.nrca_sets.specs.Pairs.{pair_value}
use Rattle.nrca_numbers.proofs.runs.numbers_over_pairs.Goals as goal

pub returns : goal.returns
returns c =
    found_as c.numbers.result _ _ c.numbers.ensures
    (λ xs k. over_column natural 0 pair_value (0, 0) c.args.globals.now c.args.env.now c.args.body.now c.args.column.now xs.items k.0 k.1)
