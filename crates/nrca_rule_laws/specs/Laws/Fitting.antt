-- What follows from the definitions of `Fitting`.
use Rattle.std.proofs.Common.{◌≡◌, true, false, List, sym, ◌∙◌}
use Rattle.nrca_term.specs.declared.trace.Rule.{Rule}
use Rattle.nrca_term.specs.Term.{Term, form_of}
use Rattle.nrca_term.specs.Typing.{instances}
use Rattle.nrca_term.specs.Rules.{Way, Redex}
use Rattle.nrca_rule_laws.specs.Laws.Lefts.{left_form, redex-left}
use Rattle.nrca_rule_laws.specs.Laws.Keeping.{rule-keeps}
use Rattle.nrca_rule_laws.specs.Laws.Types.{rule-types}
use Rattle.nrca_rule_laws.specs.Fitting.{RuleFits, IsRight}

-- the right side of a rule keeps meaning and types
pub right-side : (R : Rule) (l r : Term) (ws : List Way) → Redex R l r ws → IsRight R l r
right-side R l r ws x = record {
  ways = ws;
  redex = x;
  meaning = λ given V c env vals T us g y s k. rule-keeps (instances given) V c env vals T R l r us g y s k;
  types = λ given env T c. rule-types (instances given) env T R l r ws x c;
}

-- a rule does not fit a node of another form than its left side
pub fits-not : (R : Rule) (l : Term) → left_form R (form_of l) ≡ false → RuleFits R false l
fits-not R l e r ws x = no (sym e ∙ redex-left R l r ws x)
  where
    no : false ≡ true → ⊥
    no q = cc
