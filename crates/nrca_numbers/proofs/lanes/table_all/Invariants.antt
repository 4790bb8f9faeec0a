use Rattle.std.proofs.Common.{◌≡◌, ℕ, ◌<◌, ◌≤◌, ◌∷◌, [], Some}
use Rattle.std.specs.Prelude.{slice_index}
use Rattle.aql_value.specs.Datum.{natural}
use Rattle.aql_value.specs.Operations.{cell_of}
use Rattle.nrca_array.specs.Held.{held_datum}
use Rattle.nrca_numbers.proofs.lanes.table_all.Given as goal

abbrev pub invariant-loop-j : goal.invariant-loop-j
invariant-loop-j l =
    ((k : ℕ) → k < l.j → cell_of (held_datum l.array) (slice_index l.initial.numbers k ∷ slice_index l.second k ∷ []) ≡ Some (natural (slice_index l.numbers k)))
    × ((k : ℕ) → l.j ≤ k → slice_index l.numbers k ≡ slice_index l.initial.numbers k)
