use Rattle.aql_syntax.specs.Laws.Index.{over_indices-is, turns_over-is}
use Rattle.aql_syntax.specs.Laws.Rows.{rows-append}
use Rattle.aql_syntax.proofs.laws.rows.Goals as goal

pub returns-clause-others : goal.returns-clause-others
returns-clause-others c = rows-append

pub returns-clause-order : goal.returns-clause-order
returns-clause-order c = λ ds f. over_indices-is ds f

pub returns-clause-turns : goal.returns-clause-turns
returns-clause-turns c = turns_over-is
