use Rattle.nrca_term.specs.Typing.{instances}
use Rattle.nrca_motion.specs.Laws.Steps.{moved-keeps, moved-typed}
use Rattle.nrca_motion.specs.Laws.Weights.{redex-weight}
use Rattle.nrca_motion.proofs.laws.redexes.Goals as goal

pub returns-clause-meaning : goal.returns-clause-meaning
returns-clause-meaning c given = moved-keeps (instances given)

pub returns-clause-types : goal.returns-clause-types
returns-clause-types c given = moved-typed (instances given)

pub returns-clause-weight : goal.returns-clause-weight
returns-clause-weight c = redex-weight
