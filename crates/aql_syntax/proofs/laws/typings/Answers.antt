use Rattle.aql_syntax.specs.Typing.{environment_of}
use Rattle.aql_syntax.specs.Laws.Uses.{environment_of-within, expression-uses, position-uses}
use Rattle.aql_syntax.proofs.laws.typings.Goals as goal

pub returns-clause-expressions : goal.returns-clause-expressions
returns-clause-expressions c = λ earlier. expression-uses (environment_of earlier) (environment_of-within earlier)

pub returns-clause-declarations : goal.returns-clause-declarations
returns-clause-declarations c = position-uses
