-- When a list of schemes says what the earlier positions have; local names under a substitution.
use Rattle.std.proofs.Common.{ℕ, ◌≡◌, ◌<◌, List, [], ◌∷◌, Option, Some, None}
use Rattle.aql_ty.specs.Types.{Ty, Subst, apply, IsWithin, Sort, value, macro, apply_sort}
use Rattle.aql_syntax.specs.Tree.{Name}
use Rattle.aql_syntax.specs.Names.{find}
use Rattle.aql_syntax.specs.Typing.{Environment}
use Rattle.aql_infer_steps.specs.Constraints.{NumberedScheme, NumberedSchemes}

-- the instances of a list
abbrev pub apply_each : Subst → List Ty → List Ty
apply_each u [] = []
apply_each u (t ∷ ts) = apply u t ∷ apply_each u ts

-- the type is an instance, within the limits, of what a position has
abbrev pub SortHas : Sort → Ty → Type 0
SortHas (value r) t = IsWithin t × ((w : Subst) × (t ≡ apply w r))
SortHas (macro a b) t = ⊥

-- and so argument and result of a macro, by one substitution
abbrev pub SortTakes : Sort → Ty → Ty → Type 0
SortTakes (value r) s t = ⊥
SortTakes (macro a b) s t = IsWithin s × IsWithin t × ((w : Subst) × (s ≡ apply w a) × (t ≡ apply w b))

-- a position of this scheme has the type
abbrev pub SchemeHas : Option NumberedScheme → Ty → Type 0
SchemeHas None t = ⊥
SchemeHas (Some s) t = SortHas s.sort t

-- a macro of this scheme takes the first type and gives the second
abbrev pub SchemeTakes : Option NumberedScheme → Ty → Ty → Type 0
SchemeTakes None s t = ⊥
SchemeTakes (Some r) s t = SortTakes r.sort s t

-- only variables below a number matter
abbrev pub IsClosedSort : ℕ → Sort → Type 0
IsClosedSort k s = (u v : Subst) → ((x : ℕ) → x < k → u x ≡ v x) → apply_sort u s ≡ apply_sort v s

-- the scheme has no variables but its own
abbrev pub SchemeClosed : Option NumberedScheme → Type 0
SchemeClosed None = Unit {0}
SchemeClosed (Some s) = IsClosedSort s.variables s.sort

-- the schemes say what the positions have
pub record Describes (g : Environment) (ss : NumberedSchemes) : Type 0 where
  pub has : (x : Name) (t : Ty) → SchemeHas (find x ss) t → g.has x t
  pub had : (x : Name) (t : Ty) → g.has x t → SchemeHas (find x ss) t
  pub takes : (x : Name) (s t : Ty) → SchemeTakes (find x ss) s t → g.takes x s t
  pub taken : (x : Name) (s t : Ty) → g.takes x s t → SchemeTakes (find x ss) s t
  pub closed : (x : Name) → SchemeClosed (find x ss)
