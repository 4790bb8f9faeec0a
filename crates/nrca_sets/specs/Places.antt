-- The order of values by their places.
use Rattle.std.specs.Prelude.{ℕ, zero, suc, List, Option, Some}
use Rattle.std.specs.List.{slice_get}
use Rattle.std.specs.declared.cmp.Ordering.{Ordering}
use Rattle.std.specs.declared.cmp.Ordering.TheVariants.{Less, Equal}
use Rattle.aql_value.specs.Datum.{Datum}
use Rattle.aql_value.specs.Order.{datum_cmp}
use Rattle.aql_value.specs.Partial.{◌>>=◌}

-- the order of a value to the one at a place, if there is one
abbrev pub order_to : Datum → List Datum → ℕ → Option Ordering
order_to x ys j = slice_get ys j >>= λ y. Some (datum_cmp x y)

-- the order of the values at two places, if both are there
abbrev pub places_order : List Datum → ℕ → List Datum → ℕ → Option Ordering
places_order xs i ys j = slice_get xs i >>= λ x. order_to x ys j

-- what so many parts behind the second decide of the order of a pair to a tuple
abbrev pub rest_order : ℕ → Ordering
rest_order zero = Equal
rest_order (suc n) = Less
