use Rattle.std.proofs.Common.{false, [], refl}
use Rattle.nrca_term.specs.View.{term_of}
use Rattle.nrca_term.specs.Laws.Equations.{term_of-Bool}
use Rattle.nrca_term.specs.declared.trace.Rule.TheVariants.{C3}
use Rattle.nrca_rule_laws.specs.Laws.Fitting.{right-side}
use Rattle.nrca_checks.proofs.sides.c3.Goals as goal

pub returns-clause-right : goal.returns-clause-right
returns-clause-right c = right-side C3 (term_of c.args._term) _ [] (c.requires, term_of-Bool false, refl)

pub returns-clause-redex : goal.returns-clause-redex
returns-clause-redex c = (c.requires, term_of-Bool false, refl)
