-- What a session knows of the outcomes that it keeps.
use Rattle.std.specs.Prelude.{◌≡◌, List, length, map, Option, Some, None}
use Rattle.std.specs.Option.{option_map}
use Rattle.aql_value.specs.Datum.{Datum}
use Rattle.nrca_term.specs.Meaning.{Outcomes}
use Rattle.nrca_term.specs.Valid.{AreValidOutcomes}
use Rattle.nrca_ranges.specs.Bounds.{Bounds, HasShape}
use Rattle.nrca_ranges.specs.Exact.{exact_bounds}
use Rattle.nrca_ranges.specs.Shapes.{Tells}

-- a value has the shape, and where there is no value there is no shape
abbrev pub HasShapeThere : Option Bounds → Option Datum → Type 0
HasShapeThere None None = Unit {0}
HasShapeThere None (Some v) = ⊥
HasShapeThere (Some b) None = ⊥
HasShapeThere (Some b) (Some v) = HasShape b v

-- what is kept of an outcome: of a value all that it shows of itself, however it is kept; of no value nothing
abbrev pub kept_of : Option Datum → Option Bounds
kept_of = option_map exact_bounds

-- the same of outcomes, in order
abbrev pub kept_of_each : Outcomes → List (Option Bounds)
kept_of_each = map kept_of

-- As many shapes as outcomes: a position has one exactly where it has a value, and the value has it. Each shape is all that the value
-- shows of itself, and each value is one of the language.
pub record Knows (gs : List (Option Bounds)) (V : Outcomes) : Type 0 where
  pub many : length gs ≡ length V
  pub tells : Tells gs V
  pub exact : gs ≡ kept_of_each V
  pub valid : AreValidOutcomes V
