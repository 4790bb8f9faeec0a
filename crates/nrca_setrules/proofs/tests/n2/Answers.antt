use Rattle.std.proofs.Common.{rules, subst}
use Rattle.nrca_term.specs.View.{term_of}
use Rattle.nrca_term.specs.declared.trace.Rule.TheVariants.{N2}
use Rattle.nrca_rule_laws.specs.Fitting.{IsRight}
use Rattle.nrca_term.specs.Laws.AsVariant.{as-Default}
use Rattle.nrca_setrules.proofs.TestSides.{n2_right}
use Rattle.nrca_setrules.proofs.tests.n2.Goals as goal

pub returns : goal.returns
returns c = subst (λ x. IsRight N2 (term_of c.args.term) (term_of x)) (search rules) (n2_right (term_of c.args.term) (term_of c.in-Default.first.value) (term_of c.in-Default.field-1.value) (as-Default c.args.term c.in-Default.first c.in-Default.field-1 c.in-Default.is))
