-- Where a rule fits, and all that its right side keeps (`right-side`): what the functions of the rules promise.
use Rattle.std.proofs.Common.{◌≡◌, ℕ, Bool, true, false, List}
use Rattle.aql_value.specs.Datum.{Datum}
use Rattle.aql_ty.specs.Types.{Ty}
use Rattle.nrca_term.specs.declared.trace.Rule.{Rule}
use Rattle.nrca_term.specs.Term.{Term, Closed, IsSmall}
use Rattle.nrca_term.specs.Meaning.{Outcomes, cden}
use Rattle.nrca_term.specs.Typing.{instances}
use Rattle.nrca_term.specs.TypedPlaces.{Keeps}
use Rattle.nrca_term.specs.Facts.{Context}
use Rattle.nrca_term.specs.Rules.{Way, Redex, Side, KnownAt}
use Rattle.nrca_rule_laws.specs.Keeping.{Given}

-- whether the rule fits the term
abbrev pub RuleFits : Rule → Bool → Term → Type 0
RuleFits R true l = (r : Term) × (ws : List Way) × Redex R l r ws
RuleFits R false l = (r : Term) (ws : List Way) → Redex R l r ws → ⊥

-- a term that shifts and substitutions may take: with the number of its free variables it is small
abbrev pub IsSmallPart : Term → Type 0
IsSmallPart t = (n : ℕ) × Closed n t × IsSmall n t

-- the right side is worth what the left side is, wherever the condition holds
abbrev pub HasMeaning : Rule → Term → Term → Type 0
HasMeaning R l r = (given : List Ty) (V : Outcomes) (c : Context) (env : List Ty) (vals : List Datum) (T : Ty) (ws : List Way) → Given (instances given) V c env vals l T → Redex R l r ws → Side V R vals l r ws → KnownAt R c l → cden V vals l ≡ cden V vals r

-- the right side of a rule, with its ways, its meaning and its types
pub record IsRight (R : Rule) (l r : Term) : Type 0 where
  pub ways : List Way
  pub redex : Redex R l r ways
  pub meaning : HasMeaning R l r
  pub types : (given : List Ty) → Keeps (instances given) l r
