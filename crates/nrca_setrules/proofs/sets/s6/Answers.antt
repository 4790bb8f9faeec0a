use Rattle.std.proofs.Common.{rules, subst}
use Rattle.nrca_term.specs.View.{term_of}
use Rattle.nrca_term.specs.declared.trace.Rule.TheVariants.{S6}
use Rattle.nrca_rule_laws.specs.Fitting.{IsRight}
use Rattle.nrca_term.specs.Laws.AsVariant.{as-BigUnion}
use Rattle.nrca_setrules.proofs.SetSides.{s6_right}
use Rattle.nrca_setrules.proofs.sets.s6.Goals as goal

pub returns : goal.returns
returns c = subst (λ x. IsRight S6 (term_of c.args.term) (term_of x)) (search rules) (s6_right (term_of c.args.term) (term_of c.in-BigUnion.over.value) (term_of c.in-BigUnion.body.value) c.requires (as-BigUnion c.args.term c.in-BigUnion.over c.in-BigUnion.body c.in-BigUnion.is))
