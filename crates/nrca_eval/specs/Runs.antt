-- What a body gives in runs of the members of a loop and of the cells of a tabulation, and what it takes there.
use Rattle.std.specs.Prelude.{ℕ, ◌++◌, ◌∷◌, [], List, Option}
use Rattle.std.specs.List.{slice_range}
use Rattle.aql_value.specs.Datum.{Datum}
use Rattle.aql_value.specs.Indices.{indices}
use Rattle.aql_value.specs.Operations.{push_index}
use Rattle.aql_value.specs.Partial.{each, total}
use Rattle.nrca_term.specs.Term.{Term}
use Rattle.nrca_term.specs.Meaning.{Outcomes, cden}
use Rattle.nrca_term.specs.Turns.{settle}

-- the body at each member from one number up to another
abbrev pub run_values : Outcomes → List Datum → Term → List Datum → ℕ → ℕ → Option (List Datum)
run_values V vals t ms a b = each (λ m. cden V (m ∷ vals) t) (slice_range ms a b)

-- the turns of the body over the members from a to b
abbrev pub run_turns : Outcomes → List Datum → Term → List Datum → ℕ → ℕ → ℕ
run_turns V vals t ms a b = total (λ m. settle V (m ∷ vals) t) (slice_range ms a b)

-- the body at each index from one row-major number up to another
abbrev pub cell_values : Outcomes → List Datum → Term → List ℕ → ℕ → ℕ → Option (List Datum)
cell_values V vals t ds a b = each (λ at. cden V (push_index at [] ++ vals) t) (slice_range (indices ds) a b)

-- the turns of the body over the indices from a to b
abbrev pub cell_turns : Outcomes → List Datum → Term → List ℕ → ℕ → ℕ → ℕ
cell_turns V vals t ds a b = total (λ at. settle V (push_index at [] ++ vals) t) (slice_range (indices ds) a b)
