use Rattle.nrca_term.specs.Typing.{instances}
use Rattle.nrca_motion.specs.Laws.Bounds.{chain-bound}
use Rattle.nrca_motion.specs.Laws.Steps.{chain-keeps, chain-typed}
use Rattle.nrca_motion.specs.Laws.Weights.{chain-weight}
use Rattle.nrca_motion.proofs.laws.chains.Goals as goal

pub returns-clause-meaning : goal.returns-clause-meaning
returns-clause-meaning c given V g moves t u T ty h = (chain-keeps (instances given) V g moves t u T ty h).0

pub returns-clause-types : goal.returns-clause-types
returns-clause-types c given = chain-typed (instances given)

pub returns-clause-weight : goal.returns-clause-weight
returns-clause-weight c given = chain-weight (instances given)

pub returns-clause-short : goal.returns-clause-short
returns-clause-short c given = chain-bound (instances given)
