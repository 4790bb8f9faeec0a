use Rattle.nrca_term.specs.Typing.{instances}
use Rattle.nrca_motion.specs.Laws.Bounds.{step-nodes}
use Rattle.nrca_motion.specs.Laws.Steps.{step-keeps, step-typed}
use Rattle.nrca_motion.specs.Laws.Weights.{step-weight}
use Rattle.nrca_motion.proofs.laws.moves.Goals as goal

pub returns-clause-meaning : goal.returns-clause-meaning
returns-clause-meaning c given = step-keeps (instances given)

pub returns-clause-types : goal.returns-clause-types
returns-clause-types c given = step-typed (instances given)

pub returns-clause-weight : goal.returns-clause-weight
returns-clause-weight c given = step-weight (instances given)

pub returns-clause-measure : goal.returns-clause-measure
returns-clause-measure c given = step-nodes (instances given)
