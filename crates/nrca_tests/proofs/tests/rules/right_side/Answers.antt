use Rattle.std.proofs.Common.{true, subst}
use Rattle.nrca_term.specs.View.{term_of}
use Rattle.nrca_rule_laws.specs.Fitting.{RuleFits}
use Rattle.nrca_tests.proofs.tests.rules.right_side.Goals as goal

pub k1-requires : goal.k1-requires
k1-requires c = subst (λ R. RuleFits R true (term_of c.args.term)) c.in-K1.is c.requires.fits

pub a5-requires : goal.a5-requires
a5-requires c = subst (λ R. RuleFits R true (term_of c.args.term)) c.in-A5.is c.requires.fits
