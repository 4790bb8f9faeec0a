use Rattle.aql_syntax.specs.Laws.Weakening.{den-unused, work-unused}
use Rattle.aql_syntax.proofs.laws.unused_positions.Goals as goal

pub returns-clause-value : goal.returns-clause-value
returns-clause-value c = den-unused

pub returns-clause-turns : goal.returns-clause-turns
returns-clause-turns c = work-unused
