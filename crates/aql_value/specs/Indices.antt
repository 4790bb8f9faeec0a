-- The indices of an array, and its cells.
use Rattle.std.specs.Prelude.{◌≡◌, ℕ, ◌+◌, ◌*◌, ◌≤◌, cond, nat_eq, nat_lt, List, [], ◌∷◌, length, map, Option, Some, None}
use Rattle.std.specs.List.{flat_map, range_with_len, zip}
use Rattle.std.specs.Option.{option_map}
use Rattle.std.specs.Cmp.Lexicographic.{pointwise}
use Rattle.aql_value.specs.Datum.{Datum, Table}

-- the number of cells
abbrev pub product : List ℕ → ℕ
product [] = 1
product (d ∷ ds) = d * product ds

-- the sum of the products of the first number, of the first two and so on: d1 + d1 * d2 + ..
abbrev pub prefix_products : List ℕ → ℕ
prefix_products [] = 0
prefix_products (d ∷ ds) = d + d * prefix_products ds

-- all indices below the dimensions, in row-major order
unfoldable pub indices : List ℕ → List (List ℕ)
indices [] = [] ∷ []
indices (d ∷ ds) = flat_map (λ i. map (λ rest. i ∷ rest) (indices ds)) (range_with_len 0 d)

-- the cells, each beside its index
abbrev pub pairs : Table → List (List ℕ × Datum)
pairs t = zip (indices t.dims) t.cells

-- the value paired with an index, or none
abbrev pub paired_value : List ℕ → List (List ℕ × Datum) → Option Datum
paired_value at [] = None
paired_value at (p ∷ ps) = cond (pointwise nat_eq at p.0) (Some p.1) (paired_value at ps)

-- the cell at an index, or none
abbrev pub cell : Table → List ℕ → Option Datum
cell t at = paired_value at (pairs t)

-- the place of an index in row-major order
abbrev pub offset : List ℕ → List ℕ → ℕ
offset [] at = 0
offset (d ∷ ds) [] = 0
offset (d ∷ ds) (i ∷ at) = i * product ds + offset ds at

-- the place of an index in row-major order, or none where it is not below the dimensions
abbrev pub offset_of : (dims at : List ℕ) → Option ℕ
offset_of [] [] = Some 0
offset_of [] (i ∷ at) = None
offset_of (d ∷ ds) [] = None
offset_of (d ∷ ds) (i ∷ at) = cond (nat_lt i d) (option_map (λ p. i * product ds + p) (offset_of ds at)) None

-- 1 to 8 dimensions, and a cell for each index
pub record IsTable (t : Table) : Type 0 where
  pub some : 1 ≤ length t.dims
  pub few : length t.dims ≤ 8
  pub full : product t.dims ≡ length t.cells

-- the table, where there are as many cells as indices
abbrev pub table : List ℕ → List Datum → Option Table
table dims cells = cond (nat_eq (product dims) (length cells)) (Some (record { dims = dims; cells = cells })) None
