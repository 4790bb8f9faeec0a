use Rattle.aql_syntax.specs.Laws.Names.{lookup-local, lookup-global, den-latest}
use Rattle.aql_syntax.proofs.laws.names.Goals as goal

pub returns-clause-locals : goal.returns-clause-locals
returns-clause-locals c = lookup-local

pub returns-clause-positions : goal.returns-clause-positions
returns-clause-positions c = lookup-global

pub returns-clause-macros : goal.returns-clause-macros
returns-clause-macros c = den-latest
