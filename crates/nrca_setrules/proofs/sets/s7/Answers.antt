use Rattle.std.proofs.Common.{rules, subst}
use Rattle.nrca_term.specs.View.{term_of}
use Rattle.nrca_term.specs.declared.trace.Rule.TheVariants.{S7}
use Rattle.nrca_rule_laws.specs.Fitting.{IsRight}
use Rattle.nrca_term.specs.Laws.AsVariant.{as-Empty, as-Union}
use Rattle.nrca_setrules.proofs.SetSides.{s7_left, s7_right}
use Rattle.nrca_setrules.proofs.sets.s7.Goals as goal

pub returns-in-Empty : goal.returns-in-Empty
returns-in-Empty c = subst (λ x. IsRight S7 (term_of c.args.term) (term_of x)) (search rules) (s7_right (term_of c.args.term) (term_of c.in-Union.left.value) (term_of c.in-Union.right.value) (as-Union c.args.term c.in-Union.left c.in-Union.right c.in-Union.is) (as-Empty c.in-Union.right.value (search rules)))

pub returns-in-Empty-deref : goal.returns-in-Empty-deref
returns-in-Empty-deref c = subst (λ x. IsRight S7 (term_of c.args.term) (term_of x)) (search rules) (s7_left (term_of c.args.term) (term_of c.in-Union.left.value) (term_of c.in-Union.right.value) (as-Union c.args.term c.in-Union.left c.in-Union.right c.in-Union.is) (as-Empty c.in-Union.left.value (search rules)))
