use Rattle.nrca_numbers.proofs.Arms.{found_as}
use Rattle.nrca_numbers.proofs.Over.{over_column}
use Rattle.aql_value.specs.Datum.{natural}
use Rattle.nrca_numbers.specs.Few.{few_set}
use Rattle.nrca_numbers.specs.declared.sets.AtMostOne.TheVariants as at_most
use Rattle.nrca_numbers.proofs.runs.few_over.Goals as goal

pub returns : goal.returns
returns c =
    found_as c.few_each.result _ _ c.few_each.ensures
    (λ xs k. over_column few_set at_most.Nothing natural 0 c.args.globals.now c.args.env.now c.args.body.now c.args.column.now xs.items k.0 k.1)
