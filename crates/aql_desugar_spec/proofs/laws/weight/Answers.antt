use Rattle.aql_desugar_spec.specs.Laws.Weight.{start-weighs}
use Rattle.aql_desugar_spec.proofs.laws.weight.Goals as goal

pub returns : goal.returns
returns c = start-weighs
