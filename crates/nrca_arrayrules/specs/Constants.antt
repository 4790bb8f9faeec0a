-- Dimensions and indices that are written as numbers.
use Rattle.std.specs.Prelude.{◌≡◌, ℕ, ◌<◌, ◌≤◌, ◌-◌, ◌^◌, min, List, length, map, Option, Some, None, get_or}
use Rattle.aql_value.specs.Indices.{product, offset_of}
use Rattle.nrca_term.specs.declared.term.Terms.{Terms}
use Rattle.nrca_term.specs.Term.{Term}
use Rattle.nrca_term.specs.Nodes.{number, bottom_term}
use Rattle.nrca_term.specs.View.{terms_of}

-- k dimensions, which are numbers, and as many cells as their product
abbrev pub IsConstantArray : ℕ → List Term → List Term → Type 0
IsConstantArray k ds cs = (ns : List ℕ) × (ds ≡ map number ns) × (k ≡ length ns) × (product ns ≡ length cs)

-- dimensions and indices are numbers, equally many, and the cells as many as the dimensions say
abbrev pub IsConstantSubscript : (ds cs at : List Term) → Type 0
IsConstantSubscript ds cs at =
    (ns is : List ℕ) × (ds ≡ map number ns) × (at ≡ map number is)
    × (length ns ≡ length is) × (product ns ≡ length cs)

-- the same of lists of the code
abbrev pub AreConstant : (dims cells at : Terms) → Type 0
AreConstant dims cells at = IsConstantSubscript (terms_of dims) (terms_of cells) (terms_of at)

-- the place of the index in row-major order, or 2^128-1 where it is larger; none where the index is
-- not below the dimensions, and where one of them is no number
abbrev pub IsOffset : (ds at : List Term) → Option ℕ → Type 0
IsOffset ds at (Some p) =
    (ns is : List ℕ) × (q : ℕ) × (ds ≡ map number ns) × (at ≡ map number is)
    × (offset_of ns is ≡ Some q) × (p ≡ min q (2 ^ 128 - 1))
IsOffset ds at None =
    (ns is : List ℕ) → ds ≡ map number ns → at ≡ map number is → offset_of ns is ≡ None

-- the cell at a place, or Bottom where there is none
abbrev pub cell_or_bottom : List Term → Option ℕ → Term
cell_or_bottom cs None = bottom_term
cell_or_bottom cs (Some p) = get_or cs p bottom_term

-- the term is the cell at the index, or Bottom where the index is not below the dimensions
abbrev pub IsCell : (ds cs at : List Term) → Term → Type 0
IsCell ds cs at r =
    (ns is : List ℕ) → ds ≡ map number ns → at ≡ map number is →
    r ≡ cell_or_bottom cs (offset_of ns is)

-- both numbers, where they are numbers and the second is below the first
abbrev pub AreBelow : (d i : Term) → Option (ℕ × ℕ) → Type 0
AreBelow d i (Some p) = (d ≡ number p.0) × (i ≡ number p.1) × (p.1 < p.0)
AreBelow d i None = (m n : ℕ) → d ≡ number m → i ≡ number n → m ≤ n
