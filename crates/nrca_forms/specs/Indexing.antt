-- The pairs of an index and a value that `index` reads.
use Rattle.std.specs.Prelude.{◌≡◌, ℕ, suc, ◌^◌, nat_eq, nat_lt, if◌then◌else◌, List, [], ◌∷◌, ◌++◌, length, map, Option, Some, None, Result}
use Rattle.std.specs.Option.{option_map}
use Rattle.std.specs.List.{slice_get, slice_range}
use Rattle.std.specs.Cmp.Lexicographic.{pointwise}
use Rattle.std.proofs.Math.ListN.{set}
use Rattle.std.proofs.Common.{get_or}
use Rattle.std.specs.declared.vec.Vec.{Vec}
use Rattle.std.proofs.Common.{Global}
use Rattle.aql_value.specs.Datum.{Datum}
use Rattle.aql_value.specs.Indices.{indices, offset}
use Rattle.aql_value.specs.Lists.{Every}
use Rattle.aql_value.specs.Meaning.{datum}
use Rattle.aql_value.specs.Operations.{as_array, as_indexed, dims_above, index_array, index_numbers, set_of, values_at, all_in_range, greater_each}
use Rattle.aql_value.specs.Partial.{◌>>=◌, each, if_some}
use Rattle.aql_value.specs.declared.value.Value.{Value}
use Rattle.nrca_array.specs.declared.held.Held.{Held}
use Rattle.nrca_par.specs.declared.fault.EvalFault.{EvalFault}
use Rattle.nrca_loops.specs.declared.done.Counted.{Counted}
use Rattle.nrca_loops.specs.Runs.{list_with}
use Rattle.nrca_loops.specs.Values.{held_value}
use Rattle.nrca_loops.specs.Within.{Within}
use Rattle.nrca_forms.specs.declared.index.Indexed.{Indexed}

-- a pair of an index and a value
abbrev pub pair_of : Indexed → List ℕ × Datum
pair_of p = (p.at, datum p.value)

-- the indices and values of a list of the code
abbrev pub pairs_in : Vec Indexed Global → List (List ℕ × Datum)
pairs_in ps = map pair_of ps.items

-- pairs of an index and a value, where they are there
abbrev pub pairs_of : Option (Vec Indexed Global) → Option (List (List ℕ × Datum))
pairs_of o = option_map (λ ps. map pair_of ps.items) o

-- the pairs so far and one more
abbrev pub AddsPair : Option (Vec Indexed Global) → Option Indexed → Option (Vec Indexed Global) → Type 0
AddsPair ps p r = pairs_of r ≡ list_with (pairs_of ps) (option_map pair_of p)

-- the indices of pairs
abbrev pub index_lists : List Indexed → List (List ℕ)
index_lists ps = map (λ p. p.0) (map pair_of ps)

-- the pairs that members are, from one place up to another
abbrev pub pairs_run : (rank : ℕ) → List Datum → ℕ → ℕ → Option (List (List ℕ × Datum))
pairs_run rank ms a b = each (as_indexed rank) (slice_range ms a b)

-- the index and the value that the member at a place is a pair of
abbrev pub indexed_at : (rank : ℕ) → List Datum → ℕ → Option (List ℕ × Datum)
indexed_at rank ms i = slice_get ms i >>= as_indexed rank

-- the index and the value that two parts are
abbrev pub indexed_pair : (rank : ℕ) → List Datum → Option (List ℕ × Datum)
indexed_pair rank [] = None
indexed_pair rank (v ∷ []) = None
indexed_pair rank (v ∷ w ∷ []) = index_numbers rank v >>= λ at. Some (at, w)
indexed_pair rank (v ∷ w ∷ x ∷ vs) = None

-- the numbers, where there are as many as the rank
abbrev pub ranked_numbers : (rank : ℕ) → Option (List ℕ) → Option (List ℕ)
ranked_numbers rank o = o >>= λ at. if nat_eq (length at) rank then Some at else None

-- each index has that many numbers
abbrev pub AreRanked : (rank : ℕ) → Option (List (List ℕ × Datum)) → Type 0
AreRanked rank None = Unit {0}
AreRanked rank (Some ps) = Every (λ p. length p.0 ≡ rank) ps

-- the array of the sets of values that pairs have at each index
abbrev pub pairs_value : (rank : ℕ) → Option (List (List ℕ × Datum)) → Option Datum
pairs_value rank o = o >>= λ ps. index_array (dims_above rank (map (λ p. p.0) ps)) ps

-- its cells, where there is one
abbrev pub pairs_turns : (rank : ℕ) → Option (List (List ℕ × Datum)) → ℕ
pairs_turns rank o = if_some (pairs_value rank o >>= as_array) (λ t. length t.cells)

-- that array, a turn for each cell
abbrev pub MakesArray : ℕ → (rank : ℕ) → Option (List (List ℕ × Datum)) → Result (Counted (Option Held)) EvalFault → Type 0
MakesArray budget rank ps r = Within held_value budget (pairs_value rank ps) (pairs_turns rank ps) r

-- a dimension, where none stands for 2^128
abbrev pub extent : Option ℕ → ℕ
extent None = 2 ^ 128
extent (Some d) = d

-- the least dimensions that are no smaller and that one index more is below
abbrev pub greater_dims : List ℕ → List (Option ℕ) → List ℕ
greater_dims at ds = greater_each (map suc at) (map extent ds)

-- the dimensions, where none passes 2^128-1
abbrev pub ranged_dims : List ℕ → Option (List ℕ)
ranged_dims ds = if all_in_range ds then Some ds else None

-- the values that pairs have at each index below the dimensions, and the sets of these
abbrev pub values_by_index : List ℕ → List (List ℕ × Datum) → List (List Datum)
values_by_index ds ps = map (λ at. values_at at ps) (indices ds)

-- the sets of the values at each index, in row-major order
abbrev pub set_cells : List ℕ → List (List ℕ × Datum) → List Datum
set_cells ds ps = map (λ at. set_of (values_at at ps)) (indices ds)

-- a list of values, and lists of these
abbrev pub values_of : Vec Value Global → List Datum
values_of vs = map datum vs.items

-- the values of each list
abbrev pub groups_in : Vec (Vec Value Global) Global → List (List Datum)
groups_in vs = map values_of vs.items

-- lists of values with one value more at a place
abbrev pub push_group : ℕ → Datum → List (List Datum) → List (List Datum)
push_group p v groups = set groups p (get_or groups p [] ++ v ∷ [])

-- the same at the place of an index, where it is below the dimensions
abbrev pub put_group : (dims at : List ℕ) → Datum → List (List Datum) → List (List Datum)
put_group dims at v groups = if pointwise nat_lt at dims then push_group (offset dims at) v groups else groups

-- the lists with the value behind the others of its index
abbrev pub PutsAt : (dims at : List ℕ) → Value → Vec (Vec Value Global) Global → Vec (Vec Value Global) Global → Type 0
PutsAt dims at v groups r = groups_in r ≡ put_group dims at (datum v) (groups_in groups)
