-- Cells by their indices, and those of arrays of naturals.
use Rattle.std.specs.Prelude.{◌≡◌, ℕ, ◌<◌, List, length, slice_get, Option, None, MatchOption}
use Rattle.aql_value.specs.Datum.{Datum, Table}
use Rattle.aql_value.specs.Indices.{cell}
use Rattle.aql_value.specs.Operations.{as_natural}
use Rattle.aql_value.specs.Partial.{◌>>=◌, each}

-- the cell of that row-major number, where the cells are all naturals
abbrev pub natural_of : List Datum → ℕ → Option Datum
natural_of cs i = each as_natural cs >>= λ ns. slice_get cs i

-- the cell at the index, where the cells are all naturals
abbrev pub natural_cell : Table → List ℕ → Option Datum
natural_cell t at = each as_natural t.cells >>= λ ns. cell t at

-- the row-major number of the index; none where there is no cell at it
abbrev pub IsCellNumber : Table → List ℕ → Option ℕ → Type 0
IsCellNumber t at r = MatchOption r (cell t at ≡ None) (λ i. (i < length t.cells) × (cell t at ≡ slice_get t.cells i))
