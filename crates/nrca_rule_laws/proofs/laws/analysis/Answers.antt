use Rattle.nrca_term.specs.Typing.{instances}
use Rattle.nrca_term.specs.Firm.{is_defined}
use Rattle.nrca_rule_laws.specs.Laws.Spans.{span-sound}
use Rattle.nrca_rule_laws.specs.Laws.Firms.{firm-defined}
use Rattle.nrca_rule_laws.specs.Laws.Ways.{outcomes-are, firm-side}
use Rattle.nrca_rule_laws.proofs.laws.analysis.Goals as goal

pub returns-clause-spans : goal.returns-clause-spans
returns-clause-spans c = span-sound

pub returns-clause-firm : goal.returns-clause-firm
returns-clause-firm c given V g d t env vals T h st ty e = firm-defined (instances given) V (is_defined V) g (outcomes-are V) t d env vals T h st ty e

pub returns-clause-ways : goal.returns-clause-ways
returns-clause-ways c given = firm-side (instances given)
