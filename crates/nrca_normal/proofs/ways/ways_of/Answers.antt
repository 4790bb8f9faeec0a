use Rattle.std.proofs.Common.{refl, sym, subst, true}
use Rattle.nrca_term.specs.View.{term_of}
use Rattle.nrca_term.specs.declared.trace.Rule.TheVariants.{B1, K1, I1, I2, L2, P2, S1, S2, S3, S4, S5, S6, S7, S8, S9, A2, A4, A7, N1}
use Rattle.nrca_rule_laws.specs.Fitting.{RuleFits}
use Rattle.nrca_normal.specs.Ways.{AreWays}
use Rattle.nrca_normal.specs.declared.ways.Ways.TheVariants.{Free, First}
use Rattle.nrca_normal.specs.Laws.Ways.{free-ways, l3-ways, n2-ways}
use Rattle.nrca_normal.proofs.ways.ways_of.Goals as goal

pub ways_of_subscript-requires : goal.ways_of_subscript-requires
ways_of_subscript-requires c = subst (λ R. RuleFits R true (term_of c.args.term.now)) c.in-A5.is c.requires.fits

pub returns-in-L3-clause-ways : goal.returns-in-L3-clause-ways
returns-in-L3-clause-ways c = subst (λ R. AreWays R (term_of c.args.term.now) First) (sym c.in-L3.is) (l3-ways (term_of c.args.term.now))

pub returns-in-N2-clause-ways : goal.returns-in-N2-clause-ways
returns-in-N2-clause-ways c = subst (λ R. AreWays R (term_of c.args.term.now) First) (sym c.in-N2.is) (n2-ways (term_of c.args.term.now))

pub returns-in-B1-clause-ways : goal.returns-in-B1-clause-ways
returns-in-B1-clause-ways c = subst (λ R. AreWays R (term_of c.args.term.now) Free) (sym c.in-B1.is) (free-ways B1 (term_of c.args.term.now) refl)

pub returns-in-K1-clause-ways : goal.returns-in-K1-clause-ways
returns-in-K1-clause-ways c = subst (λ R. AreWays R (term_of c.args.term.now) Free) (sym c.in-K1.is) (free-ways K1 (term_of c.args.term.now) refl)

pub returns-in-I1-clause-ways : goal.returns-in-I1-clause-ways
returns-in-I1-clause-ways c = subst (λ R. AreWays R (term_of c.args.term.now) Free) (sym c.in-I1.is) (free-ways I1 (term_of c.args.term.now) refl)

pub returns-in-I2-clause-ways : goal.returns-in-I2-clause-ways
returns-in-I2-clause-ways c = subst (λ R. AreWays R (term_of c.args.term.now) Free) (sym c.in-I2.is) (free-ways I2 (term_of c.args.term.now) refl)

pub returns-in-L2-clause-ways : goal.returns-in-L2-clause-ways
returns-in-L2-clause-ways c = subst (λ R. AreWays R (term_of c.args.term.now) Free) (sym c.in-L2.is) (free-ways L2 (term_of c.args.term.now) refl)

pub returns-in-P2-clause-ways : goal.returns-in-P2-clause-ways
returns-in-P2-clause-ways c = subst (λ R. AreWays R (term_of c.args.term.now) Free) (sym c.in-P2.is) (free-ways P2 (term_of c.args.term.now) refl)

pub returns-in-S1-clause-ways : goal.returns-in-S1-clause-ways
returns-in-S1-clause-ways c = subst (λ R. AreWays R (term_of c.args.term.now) Free) (sym c.in-S1.is) (free-ways S1 (term_of c.args.term.now) refl)

pub returns-in-S2-clause-ways : goal.returns-in-S2-clause-ways
returns-in-S2-clause-ways c = subst (λ R. AreWays R (term_of c.args.term.now) Free) (sym c.in-S2.is) (free-ways S2 (term_of c.args.term.now) refl)

pub returns-in-S3-clause-ways : goal.returns-in-S3-clause-ways
returns-in-S3-clause-ways c = subst (λ R. AreWays R (term_of c.args.term.now) Free) (sym c.in-S3.is) (free-ways S3 (term_of c.args.term.now) refl)

pub returns-in-S4-clause-ways : goal.returns-in-S4-clause-ways
returns-in-S4-clause-ways c = subst (λ R. AreWays R (term_of c.args.term.now) Free) (sym c.in-S4.is) (free-ways S4 (term_of c.args.term.now) refl)

pub returns-in-S5-clause-ways : goal.returns-in-S5-clause-ways
returns-in-S5-clause-ways c = subst (λ R. AreWays R (term_of c.args.term.now) Free) (sym c.in-S5.is) (free-ways S5 (term_of c.args.term.now) refl)

pub returns-in-S6-clause-ways : goal.returns-in-S6-clause-ways
returns-in-S6-clause-ways c = subst (λ R. AreWays R (term_of c.args.term.now) Free) (sym c.in-S6.is) (free-ways S6 (term_of c.args.term.now) refl)

pub returns-in-S7-clause-ways : goal.returns-in-S7-clause-ways
returns-in-S7-clause-ways c = subst (λ R. AreWays R (term_of c.args.term.now) Free) (sym c.in-S7.is) (free-ways S7 (term_of c.args.term.now) refl)

pub returns-in-S8-clause-ways : goal.returns-in-S8-clause-ways
returns-in-S8-clause-ways c = subst (λ R. AreWays R (term_of c.args.term.now) Free) (sym c.in-S8.is) (free-ways S8 (term_of c.args.term.now) refl)

pub returns-in-S9-clause-ways : goal.returns-in-S9-clause-ways
returns-in-S9-clause-ways c = subst (λ R. AreWays R (term_of c.args.term.now) Free) (sym c.in-S9.is) (free-ways S9 (term_of c.args.term.now) refl)

pub returns-in-A2-clause-ways : goal.returns-in-A2-clause-ways
returns-in-A2-clause-ways c = subst (λ R. AreWays R (term_of c.args.term.now) Free) (sym c.in-A2.is) (free-ways A2 (term_of c.args.term.now) refl)

pub returns-in-A4-clause-ways : goal.returns-in-A4-clause-ways
returns-in-A4-clause-ways c = subst (λ R. AreWays R (term_of c.args.term.now) Free) (sym c.in-A4.is) (free-ways A4 (term_of c.args.term.now) refl)

pub returns-in-A7-clause-ways : goal.returns-in-A7-clause-ways
returns-in-A7-clause-ways c = subst (λ R. AreWays R (term_of c.args.term.now) Free) (sym c.in-A7.is) (free-ways A7 (term_of c.args.term.now) refl)

pub returns-in-N1-clause-ways : goal.returns-in-N1-clause-ways
returns-in-N1-clause-ways c = subst (λ R. AreWays R (term_of c.args.term.now) Free) (sym c.in-N1.is) (free-ways N1 (term_of c.args.term.now) refl)
