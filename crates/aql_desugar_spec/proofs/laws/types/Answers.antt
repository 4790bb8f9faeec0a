use Rattle.aql_desugar_spec.specs.Laws.TypedPositions.{start-typed}
use Rattle.aql_desugar_spec.proofs.laws.types.Goals as goal

pub returns : goal.returns
returns c = start-typed
