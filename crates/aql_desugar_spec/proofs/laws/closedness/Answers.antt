use Rattle.aql_desugar_spec.specs.Laws.ClosedLaws.{start-closes}
use Rattle.aql_desugar_spec.proofs.laws.closedness.Goals as goal

pub returns : goal.returns
returns c = start-closes
