use Rattle.nrca_term.specs.Typing.{instances}
use Rattle.nrca_rule_laws.specs.Laws.Fitting.{right-side}
use Rattle.nrca_rule_laws.specs.Laws.Constants.{rule-constants}
use Rattle.nrca_rule_laws.specs.Laws.Lowering.{lowers}
use Rattle.nrca_rule_laws.specs.Laws.Unique.{ways-fixed}
use Rattle.nrca_rule_laws.proofs.laws.rules.Goals as goal

pub returns-clause-meaning : goal.returns-clause-meaning
returns-clause-meaning c R l r ws x = (right-side R l r ws x).meaning

pub returns-clause-types : goal.returns-clause-types
returns-clause-types c R l r ws x = (right-side R l r ws x).types

pub returns-clause-constants : goal.returns-clause-constants
returns-clause-constants c = rule-constants

pub returns-clause-measure : goal.returns-clause-measure
returns-clause-measure c R l r ws x given env T ty = lowers (instances given) env T R l r ws ty x

pub returns-clause-ways : goal.returns-clause-ways
returns-clause-ways c = ways-fixed
