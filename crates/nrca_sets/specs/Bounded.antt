-- How much a gather keeps.
use Rattle.std.specs.Prelude.{ℕ, ◌*◌, ◌≤◌, max, List, length}
use Rattle.aql_value.specs.Datum.{Datum}
use Rattle.aql_value.specs.Canon.{canon}

-- no more than 1,024, or twice the distinct values of the list
abbrev pub most_kept : List Datum → ℕ
most_kept xs = max 1024 (2 * length (canon xs))

-- the values that are kept are within the limit, and the limit is within what may be kept
pub record IsBounded (limit : ℕ) (xs : List Datum) : Type 0 where
  pub within : length xs ≤ limit
  pub few : limit ≤ most_kept xs
