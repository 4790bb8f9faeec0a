-- The dimensions of a variable, under a number of binders.
use Rattle.std.specs.Prelude.{◌≡◌, ℕ, ◌+◌, ◌<◌, ◌≤◌, ◌^◌, ◌↔◌, Bool, IsTrue, Option, Some, None}
use Rattle.nrca_term.specs.declared.term.Core.{Core}
use Rattle.nrca_term.specs.Term.{Term, parts_of, child_of, binders_of, weight_of}
use Rattle.nrca_term.specs.Nodes.{dim_term, variable}
use Rattle.nrca_term.specs.Rules.{dims_of_var, replace_dims}
use Rattle.nrca_term.specs.Subst.{shift_term, top_var}
use Rattle.nrca_term.specs.View.{term_of}
use Rattle.nrca_subst.specs.Depth.{IsDepth}

-- the term is the dimensions of variable i
abbrev pub IsDimOfVariable : ℕ → Term → Type 0
IsDimOfVariable i t = (k : ℕ) × (t ≡ dim_term k (variable i))

-- the term is not the dimensions of a variable
abbrev pub IsNoDim : Term → Type 0
IsNoDim t = (k i : ℕ) → t ≡ dim_term k (variable i) → ⊥

-- the variable whose dimensions the term is, or none where it is not such a term
abbrev pub DimVariable : Term → Option ℕ → Type 0
DimVariable t (Some i) = IsDimOfVariable i t
DimVariable t None = IsNoDim t

-- for every number of a variable that is kept as `at`: whether the term has its dimensions
abbrev pub AsksUnder : ℕ → Term → Bool → Type 0
AsksUnder at t b = (n : ℕ) → IsDepth at n → IsTrue b ↔ (1 ≤ dims_of_var n t)

-- the same of part i
abbrev pub AsksInPart : ℕ → ℕ → Term → Bool → Type 0
AsksInPart at i t b =
    (n : ℕ) → IsDepth at n → (u : Term) → child_of (parts_of t) i ≡ Some u →
    IsTrue b ↔ (1 ≤ dims_of_var (n + binders_of (parts_of t) i) u)

-- under this many binders no variable number of s passes 64 bits, wherever it stands in t
abbrev pub HasRoom : ℕ → (s t : Term) → Type 0
HasRoom depth s t = depth + weight_of t + top_var s < 2 ^ 64

-- u is t with s, under this many binders, for each dimensions of the variable of their number
abbrev pub ReplacesIn : ℕ → (s t u : Core) → Type 0
ReplacesIn depth s t u =
    term_of u ≡ replace_dims depth (shift_term 0 depth (term_of s)) (term_of t)
