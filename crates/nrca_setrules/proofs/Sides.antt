-- Where the left side fixes the right side.
use Rattle.std.proofs.Common.{◌≡◌, true, false, subst}
use Rattle.nrca_term.specs.declared.trace.Rule.{Rule}
use Rattle.nrca_term.specs.Term.{Term}
use Rattle.nrca_rule_laws.specs.Fitting.{RuleFits, IsRight}
use Rattle.nrca_rule_laws.specs.Laws.Fitting.{right-side}

-- a truth value is not its negation
pub false-true : false ≡ true → ⊥
false-true e = cc

-- where the left side fixes the right side, it is the one that fits
pub right_of : (R : Rule) (l r : Term) (f : RuleFits R true l) → f.0 ≡ r → IsRight R l r
right_of R l r f e = subst (IsRight R l) e (right-side R l f.0 f.1 f.2)
