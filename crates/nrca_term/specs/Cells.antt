-- How many cells dimensions say that are written as numbers.
use Rattle.std.specs.Prelude.{ℕ, ◌≡◌, ◌-◌, ◌^◌, min, List, map, Option, Some, None}
use Rattle.aql_value.specs.Indices.{product}
use Rattle.nrca_term.specs.Term.{Term}
use Rattle.nrca_term.specs.Nodes.{number}

-- the product of the numbers that the dimensions are, or 2^128-1 where it is larger; none where one
-- of them is no number
abbrev pub CountsCells : List Term → Option ℕ → Type 0
CountsCells ds (Some p) =
    (ns : List ℕ) × (ds ≡ map number ns) × (p ≡ min (product ns) (2 ^ 128 - 1))
CountsCells ds None = (ns : List ℕ) → ds ≡ map number ns → ⊥
