-- Which positions have a shape, and what is known of a position's value.
use Rattle.std.proofs.Common.{ℕ, Bool, true, false, Some, None, List, Option}
use Rattle.nrca_term.specs.Meaning.{at_position}
use Rattle.nrca_ranges.specs.Bounds.{Bounds, unknown}

-- whether a shape is there
abbrev pub has_value : Option (Option Bounds) → Bool
has_value None = false
has_value (Some None) = false
has_value (Some (Some b)) = true

-- whether position n, counted from 1, has a shape
abbrev pub is_shaped : List (Option Bounds) → ℕ → Bool
is_shaped gs n = has_value (at_position gs n)

-- the shape that is there, and nothing known where there is none
abbrev pub shape_there : Option (Option Bounds) → Bounds
shape_there None = unknown
shape_there (Some None) = unknown
shape_there (Some (Some b)) = b

-- what is known of the value of position n, counted from 1
abbrev pub position_bounds : List (Option Bounds) → ℕ → Bounds
position_bounds gs n = shape_there (at_position gs n)
