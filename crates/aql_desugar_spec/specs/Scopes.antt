-- The names that the variables around a term stand for, and positions that are worth the same to a query and to its term.
use Rattle.std.proofs.Common.{◌≡◌, ℕ, List, [], ◌∷◌, ◌++◌, length, Option, Some, None}
use Rattle.std.specs.List.{slice_get}
use Rattle.aql_value.specs.Datum.{Datum}
use Rattle.aql_syntax.specs.Tree.{Name}
use Rattle.aql_syntax.specs.Names.{find}
use Rattle.aql_syntax.specs.Matching.{Globals, outcome_of}
use Rattle.aql_syntax.specs.Denotation.{call}
use Rattle.aql_syntax.specs.Work.{turns_of_call}
use Rattle.nrca_term.specs.Meaning.{Outcomes, cden}
use Rattle.nrca_term.specs.Turns.{settle}
use Rattle.aql_desugar_spec.specs.Start.{Binders, Resolutions, position_term, macro_term}

-- the environment that the values around a term stand for: those whose variables have a name
abbrev pub env_of : {A : Type 0} → Binders → List A → List (Name × A)
env_of [] vals = []
env_of (slot ∷ s) [] = []
env_of (None ∷ s) (v ∷ vals) = env_of s vals
env_of (Some x ∷ s) (v ∷ vals) = (x, v) ∷ env_of s vals

-- what the positions mean to names and to applications, their terms are worth, and take the turns of
pub record Stand (V : Outcomes) (globals : Globals) (known : Resolutions) : Type 0 where
  pub names : (x : Name) (vals : List Datum) → cden V vals (position_term (find x known)) ≡ outcome_of (find x globals)
  pub calls : (f : Name) (w : Datum) (vals : List Datum) → cden V (w ∷ vals) (macro_term (find f known) (length vals)) ≡ call (find f globals) w
  pub turns : (f : Name) (w : Datum) (vals : List Datum) → settle V (w ∷ vals) (macro_term (find f known) (length vals)) ≡ turns_of_call (find f globals) w

-- the number of a local name leads to what stands for it
abbrev pub ResolvesTo : {A : Type 0} → List A → Option ℕ → Option A → Type 0
ResolvesTo vals None None = Unit {0}
ResolvesTo vals None (Some w) = ⊥
ResolvesTo vals (Some i) None = ⊥
ResolvesTo vals (Some i) (Some w) = slice_get vals i ≡ Some w

-- Under a match, at values that extend those around it, a term inside gives k of the names.
abbrev pub IsInside : {A : Type 0} → (List Datum → A) → ℕ → Binders → List Datum → (List (Name × Datum) → A) → Type 0
IsInside f m s vals k = (new : List Datum) → length new ≡ m → f (new ++ vals) ≡ k (env_of s (new ++ vals))
