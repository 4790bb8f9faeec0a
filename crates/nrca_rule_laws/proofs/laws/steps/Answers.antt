use Rattle.nrca_term.specs.Typing.{instances}
use Rattle.nrca_rule_laws.specs.Laws.Steps.{step-keeps, step-types, step-constants, step-lowers}
use Rattle.nrca_rule_laws.proofs.laws.steps.Goals as goal

pub returns-clause-meaning : goal.returns-clause-meaning
returns-clause-meaning c given = step-keeps (instances given)

pub returns-clause-types : goal.returns-clause-types
returns-clause-types c given V R path t u s env T ty = step-types (instances given) V R path t u env T ty s

pub returns-clause-constants : goal.returns-clause-constants
returns-clause-constants c V R path t u s h = step-constants V R path t u h s

pub returns-clause-measure : goal.returns-clause-measure
returns-clause-measure c given = step-lowers (instances given)
