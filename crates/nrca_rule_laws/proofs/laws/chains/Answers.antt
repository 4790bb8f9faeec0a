use Rattle.nrca_term.specs.Typing.{instances}
use Rattle.nrca_rule_laws.specs.Laws.Steps.{replay-types, replay-keeps, replay-few}
use Rattle.nrca_rule_laws.proofs.laws.chains.Goals as goal

pub returns-clause-meaning : goal.returns-clause-meaning
returns-clause-meaning c given = replay-keeps (instances given)

pub returns-clause-types : goal.returns-clause-types
returns-clause-types c given = replay-types (instances given)

pub returns-clause-short : goal.returns-clause-short
returns-clause-short c given = replay-few (instances given)
