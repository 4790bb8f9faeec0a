-- Normal terms: no rule fits whose condition is seen to hold.
use Rattle.std.specs.Prelude.{◌≡◌, ℕ, ◌<◌, Bool, true, false, ◌⊎◌, List, [], ◌∷◌, Some}
use Rattle.aql_value.specs.declared.ops.CompareOp.{CompareOp}
use Rattle.aql_value.specs.Lists.{Every}
use Rattle.nrca_term.specs.declared.trace.Rule.{Rule}
use Rattle.nrca_term.specs.declared.trace.Rule.TheVariants.{C1, C2, C3, C4}
use Rattle.nrca_term.specs.Term.{Term}
use Rattle.nrca_term.specs.Nodes.{compare_term}
use Rattle.nrca_term.specs.Meaning.{Outcomes}
use Rattle.nrca_term.specs.Places.{place_of}
use Rattle.nrca_term.specs.Facts.{Context, enter_facts, context_at, facts_at, Literally}
use Rattle.nrca_term.specs.Firm.{span, firm, is_defined}
use Rattle.nrca_term.specs.Rules.{Way, Redex, IsComparison}

-- the checks of comparisons
abbrev pub is_check : Rule → Bool
is_check C1 = true
is_check C2 = true
is_check C3 = true
is_check C4 = true
is_check _ = false

-- the part at the end of the way is firm at its own place, D telling which positions are defined
abbrev pub FirmAt : (ℕ → Bool) → Context → Term → Way → Type 0
FirmAt D c t w = (s : Term) → place_of t w ≡ Some s → firm D (context_at enter_facts c t w) s ≡ true

-- At a place with these facts: no rule but the checks fits without a condition, or with terms that have to be defined and are all firm;
-- no comparison is literally a fact or denied; and none has two firm sides with spans of which one lies wholly below the other.
pub record IsNormalAt (D : ℕ → Bool) (c : Context) (t : Term) : Type 0 where
  pub unfit : (R : Rule) (r : Term) (ws : List Way) → is_check R ≡ false → Redex R t r ws → Every (FirmAt D c t) ws → ⊥
  pub unknown : (b : Bool) → IsComparison t → Literally c b t → ⊥
  pub undecided : (op : CompareOp) (a b : Term) (x y : ℕ × ℕ) → t ≡ compare_term op a b → Every (FirmAt D c t) ((0 ∷ []) ∷ (1 ∷ []) ∷ []) →
      span c a ≡ Some x → span c b ≡ Some y → (x.1 < y.0) ⊎ (y.1 < x.0) → ⊥

-- the same of each place of a term, from the facts around it
abbrev pub NormalFrom : (ℕ → Bool) → Context → Term → Type 0
NormalFrom D c t = (path : List ℕ) (s : Term) → place_of t path ≡ Some s → IsNormalAt D (context_at enter_facts c t path) s

-- a normal closed term
abbrev pub IsNormal : Outcomes → Term → Type 0
IsNormal V t = (path : List ℕ) (s : Term) → place_of t path ≡ Some s → IsNormalAt (is_defined V) (facts_at t path) s
