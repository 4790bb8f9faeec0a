use Rattle.std.proofs.Common.{refl}
use Rattle.nrca_term.specs.View.{term_of}
use Rattle.nrca_term.specs.Laws.Equations.{term_of-Bool}
use Rattle.nrca_term.specs.declared.trace.Rule.TheVariants.{C4}
use Rattle.nrca_rule_laws.specs.Laws.Fitting.{right-side}
use Rattle.nrca_checks.specs.Comparing.{the_sides}
use Rattle.nrca_checks.proofs.sides.c4.Goals as goal

pub returns-clause-right : goal.returns-clause-right
returns-clause-right c = right-side C4 (term_of c.args._term) _ the_sides (c.requires, (c.args.truth, term_of-Bool c.args.truth), refl)

pub returns-clause-redex : goal.returns-clause-redex
returns-clause-redex c = (c.requires, (c.args.truth, term_of-Bool c.args.truth), refl)
