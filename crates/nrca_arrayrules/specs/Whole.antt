-- Tabulations of an array at its own indices.
use Rattle.std.specs.Prelude.{◌≡◌, ℕ, suc, ◌<◌, ◌≤◌, ◌⊎◌, List, length, get_or}
use Rattle.nrca_term.specs.Term.{Term}
use Rattle.nrca_term.specs.Nodes.{dim_term, proj_term, sub_term, bottom_term}
use Rattle.nrca_term.specs.Subst.{shift_term}
use Rattle.nrca_term.specs.Rules.{dimension_term, dimension_terms, index_variables}

-- the bounds are the dimensions of an array in order, and the body is it at its indices in order
abbrev pub IsWhole : (ds : List Term) (x : Term) → Type 0
IsWhole ds x =
    (k : ℕ) × (a : Term) × (1 ≤ k) × (ds ≡ dimension_terms k a)
    × (x ≡ sub_term (shift_term 0 k a) (index_variables k))

-- the same of a body that is a subscript of o
abbrev pub IsSame : (ds : List Term) (o : Term) (is : List Term) → Type 0
IsSame ds o is =
    (k : ℕ) × (a : Term) × (1 ≤ k) × (ds ≡ dimension_terms k a)
    × (o ≡ shift_term 0 k a) × (is ≡ index_variables k)

-- the term is the dimensions of an array of rank k, which under k variables more is o
abbrev pub IsDimOf : (k : ℕ) (o t : Term) → Type 0
IsDimOf k o t = (a : Term) × (t ≡ dim_term k a) × (o ≡ shift_term 0 k a)

-- the term is component j of such dimensions
abbrev pub IsComponentOf : (k j : ℕ) (o t : Term) → Type 0
IsComponentOf k j o t = (d : Term) × (t ≡ proj_term j k d) × IsDimOf k o d

-- the term is dimension j of an array of rank k, which under k variables more is o
abbrev pub IsDimension : (k j : ℕ) (o t : Term) → Type 0
IsDimension k j o t = (a : Term) × (t ≡ dimension_term k a j) × (o ≡ shift_term 0 k a)

-- each bound is the dimension of its place
abbrev pub AreDimensions : (ds : List Term) (o : Term) → Type 0
AreDimensions ds o =
    (j : ℕ) → j < length ds → IsDimension (length ds) (suc j) o (get_or ds j bottom_term)

-- the term is the dimensions of an array, or a component of them
abbrev pub IsDimensionOf : (a t : Term) → Type 0
IsDimensionOf a t =
    ((k : ℕ) × (t ≡ dim_term k a))
    ⊎ ((j : ℕ) × (k : ℕ) × (n : ℕ) × (t ≡ proj_term j k (dim_term n a)))
