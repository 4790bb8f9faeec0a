-- What shifting and substitution keep, as said of the term before and the term after.
use Rattle.std.specs.Prelude.{◌≡◌, ℕ, ◌≤◌, List, ◌∷◌, ◌++◌, length, Some, None}
use Rattle.aql_value.specs.Datum.{Datum}
use Rattle.aql_ty.specs.Types.{Ty}
use Rattle.nrca_term.specs.declared.term.Core.{Core}
use Rattle.nrca_term.specs.Term.{Term}
use Rattle.nrca_term.specs.View.{term_of}
use Rattle.nrca_term.specs.Meaning.{Outcomes, cden}
use Rattle.nrca_term.specs.Turns.{settle}
use Rattle.nrca_term.specs.Typing.{instances, ctyped}
use Rattle.nrca_term.specs.Subst.{subst_term, strict_uses}

-- with `by` values put in at `from` the new term has the value and the turns of the old one
abbrev pub IsShifted : ℕ → ℕ → Term → Term → Type 0
IsShifted from by t u = (V : Outcomes) (pre new post : List Datum) → length pre ≡ from → length new ≡ by →
    (cden V (pre ++ (new ++ post)) u ≡ cden V (pre ++ post) t) × (settle V (pre ++ (new ++ post)) u ≡ settle V (pre ++ post) t)

-- with `by` types put in at `from` the new term has every type of the old one, whatever types are given for the positions
abbrev pub KeepsTypesShifted : ℕ → ℕ → Term → Term → Type 0
KeepsTypesShifted from by t u = (given : List Ty) (pre new post : List Ty) (T : Ty) → length pre ≡ from → length new ≡ by →
    ctyped (instances given) (pre ++ post) t T → ctyped (instances given) (pre ++ (new ++ post)) u T

-- where the term put in has a value, the new term is the old one with that value put in
abbrev pub IsSubstituted : ℕ → Term → Term → Term → Type 0
IsSubstituted at w t u = (V : Outcomes) (pre post : List Datum) (v : Datum) → length pre ≡ at → cden V (pre ++ post) w ≡ Some v →
    cden V (pre ++ post) u ≡ cden V (pre ++ (v ∷ post)) t

-- where it has none, and some use of the variable is reached by strict parts alone, the new term has none
abbrev pub IsUndefinedWith : ℕ → Term → Term → Term → Type 0
IsUndefinedWith at w t u = (V : Outcomes) (pre post : List Datum) → length pre ≡ at → cden V (pre ++ post) w ≡ None → 1 ≤ strict_uses at t →
    cden V (pre ++ post) u ≡ None

-- where the term put in has the variable's type, the new term has every type of the old one
abbrev pub KeepsTypesSubstituted : ℕ → Term → Term → Term → Type 0
KeepsTypesSubstituted at w t u = (given : List Ty) (pre post : List Ty) (A T : Ty) → length pre ≡ at → ctyped (instances given) (pre ++ post) w A →
    ctyped (instances given) (pre ++ (A ∷ post)) t T → ctyped (instances given) (pre ++ post) u T

-- of terms of the code: the new one is the old one with the other put in
abbrev pub IsSubst : ℕ → Core → Core → Core → Type 0
IsSubst at w t u = term_of u ≡ subst_term at (term_of w) (term_of t)

-- of terms of the code: where the one put in has a value, the new one is the old one with that value put in
abbrev pub KeepsMeaning : ℕ → Core → Core → Core → Type 0
KeepsMeaning at w t u = IsSubstituted at (term_of w) (term_of t) (term_of u)

-- of terms of the code: where the one put in has none, and some use is reached by strict parts alone, the new one has none
abbrev pub StaysUndefined : ℕ → Core → Core → Core → Type 0
StaysUndefined at w t u = IsUndefinedWith at (term_of w) (term_of t) (term_of u)

-- of terms of the code: where the one put in has the variable's type, the new one has every type of the old one
abbrev pub KeepsTypes : ℕ → Core → Core → Core → Type 0
KeepsTypes at w t u = KeepsTypesSubstituted at (term_of w) (term_of t) (term_of u)
