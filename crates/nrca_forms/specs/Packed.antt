-- Packed pairs of naturals as `index` reads them.
use Rattle.std.specs.Prelude.{ℕ, List, map}
use Rattle.aql_value.specs.Datum.{Datum, natural}
use Rattle.nrca_sets.specs.Runs.{first_index}

-- the first number of a pair as an index, and the second as a value
abbrev pub indexed_number : ℕ × ℕ → List ℕ × Datum
indexed_number p = (first_index p, natural p.1)

-- the same of each pair
abbrev pub indexed_numbers : List (ℕ × ℕ) → List (List ℕ × Datum)
indexed_numbers ps = map indexed_number ps
