use Rattle.aql_desugar_spec.specs.Laws.Positions.{start-means, start-turns}
use Rattle.aql_desugar_spec.proofs.laws.meaning_and_turns.Goals as goal

pub returns-clause-meaning : goal.returns-clause-meaning
returns-clause-meaning c = start-means

pub returns-clause-turns : goal.returns-clause-turns
returns-clause-turns c = start-turns
