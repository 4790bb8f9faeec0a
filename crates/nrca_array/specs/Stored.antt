-- The cells that a builder and an array keep.
use Rattle.std.specs.Prelude.{◌≡◌, ℕ, ◌≤◌, Bool, List, length, map, None}
use Rattle.aql_value.specs.Datum.{Datum, Table, natural, truth}
use Rattle.nrca_array.specs.Packing.{pair_datum, packing}
use Rattle.nrca_array.specs.Kept.{paired_up}
use Rattle.nrca_array.specs.Groups.{numbers_set}
use Rattle.nrca_array.specs.declared.builder.Store.{Store}
use Rattle.nrca_array.specs.declared.builder.Store.TheVariants as store
use Rattle.nrca_array.specs.declared.flat.FlatCells.{FlatCells}
use Rattle.nrca_array.specs.declared.flat.FlatCells.TheVariants as kept

-- the pairs of truth values and naturals, as values
abbrev pub pair_cells : List Bool → List ℕ → List Datum
pair_cells bs ns = map pair_datum (paired_up bs ns)

-- the cells of a builder
abbrev pub store_cells : Store → List Datum
store_cells (store.Plain items) = items
store_cells (store.Naturals ns) = map natural ns
store_cells (store.Truths bs) = map truth bs
store_cells (store.Pairs ns bs) = pair_cells bs ns

-- cells that are packed where they can be
abbrev pub IsStored : Store → Type 0
IsStored (store.Plain items) = packing items ≡ None
IsStored (store.Naturals ns) = 1 ≤ length ns
IsStored (store.Truths bs) = 1 ≤ length bs
IsStored (store.Pairs ns bs) = (1 ≤ length ns) × (length bs ≡ length ns)

-- the cells of an array
abbrev pub kept_cells : FlatCells → List Datum
kept_cells (kept.Plain items) = items
kept_cells (kept.Naturals ns) = map natural ns
kept_cells (kept.Truths bs) = map truth bs
kept_cells (kept.Pairs ps) = map pair_datum ps
kept_cells (kept.Groups gs) = map numbers_set gs

-- cells that are packed where they can be, as no sets can
abbrev pub IsKept : FlatCells → Type 0
IsKept (kept.Plain items) = packing items ≡ None
IsKept (kept.Naturals ns) = 1 ≤ length ns
IsKept (kept.Truths bs) = 1 ≤ length bs
IsKept (kept.Pairs ps) = 1 ≤ length ps
IsKept (kept.Groups gs) = Unit {0}

-- the array of these dimensions and cells
abbrev pub kept_table : List ℕ → FlatCells → Table
kept_table ds cells = record { dims = ds; cells = kept_cells cells }
