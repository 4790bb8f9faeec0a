-- What each operation makes of values; None is undefined. An operation is undefined at values of the wrong kind.
use Rattle.std.specs.Prelude.{ℕ, zero, suc, ◌^◌, Bool, true, ◌&&◌, nat_lt, nat_eq, max, sum, List, [], ◌∷◌, ◌++◌, length, map, take, drop, Option, Some, None, if◌then◌else◌}
use Rattle.std.specs.List.{slice_get, filter}
use Rattle.std.specs.Cmp.Lexicographic.{pointwise}
use Rattle.aql_value.specs.Datum.{Datum, natural, truth, text, tuple, set, array, Table, data_of, list_of}
use Rattle.aql_value.specs.Order.{datum_cmp}
use Rattle.aql_value.specs.Canon.{canon}
use Rattle.aql_value.specs.Indices.{product, indices, cell}
use Rattle.aql_value.specs.Lists.{below}
use Rattle.aql_value.specs.Ops.{arith_by, compare_by}
use Rattle.aql_value.specs.Partial.{◌>>=◌, each, concat}
use Rattle.aql_value.specs.declared.ops.ArithOp.{ArithOp}
use Rattle.aql_value.specs.declared.ops.CompareOp.{CompareOp}

-- the number, where the value is one
abbrev pub as_natural : Datum → Option ℕ
as_natural (natural n) = Some n
as_natural _ = None

-- the truth value, where the value is one
abbrev pub as_truth : Datum → Option Bool
as_truth (truth b) = Some b
as_truth _ = None

-- the bytes, where the value is a string
abbrev pub as_text : Datum → Option (List ℕ)
as_text (text s) = Some s
as_text _ = None

-- the parts of a tuple
abbrev pub as_tuple : Datum → Option (List Datum)
as_tuple (tuple vs) = Some (list_of vs)
as_tuple _ = None

-- the members of a set, ascending
abbrev pub as_set : Datum → Option (List Datum)
as_set (set vs) = Some (list_of vs)
as_set _ = None

-- the dimensions and the cells of an array
abbrev pub as_array : Datum → Option Table
as_array (array ds vs) = Some (record { dims = ds; cells = list_of vs })
as_array _ = None

-- the natural, where it is at most 2^128-1
abbrev pub in_range : ℕ → Option Datum
in_range n = if nat_lt n (2 ^ 128) then Some (natural n) else None

-- a tuple, of two or more values
abbrev pub tuple_of : List Datum → Option Datum
tuple_of [] = None
tuple_of (v ∷ []) = None
tuple_of (v ∷ w ∷ vs) = Some (tuple (data_of (v ∷ w ∷ vs)))

-- the element counted from 1
abbrev pub nth : ℕ → List Datum → Option Datum
nth zero vs = None
nth (suc j) vs = slice_get vs j

-- part j, counted from 1, of a tuple of n parts
abbrev pub part_of : (j n : ℕ) → Datum → Option Datum
part_of j n v = as_tuple v >>= λ vs. if nat_eq (length vs) n then nth j vs else None

-- the set of these values
abbrev pub set_of : List Datum → Datum
set_of vs = set (data_of (canon vs))

-- the set of the members of two sets
abbrev pub union_of : Datum → Datum → Option Datum
union_of v w = as_set v >>= λ vs. as_set w >>= λ ws. Some (set_of (vs ++ ws))

-- the set of the members of all these sets
abbrev pub union_all : List Datum → Option Datum
union_all vs = each as_set vs >>= λ sets. Some (set_of (concat sets))

-- the element of a list of one element
abbrev pub only : List Datum → Option Datum
only [] = None
only (v ∷ []) = Some v
only (v ∷ w ∷ vs) = None

-- the member of a set of one member
abbrev pub get_of : Datum → Option Datum
get_of v = as_set v >>= only

-- the set of the naturals below a number
abbrev pub gen_of : Datum → Option Datum
gen_of v = as_natural v >>= λ n. Some (set (data_of (map natural (below n))))

-- what an operation makes of two numbers
abbrev pub arith_of : ArithOp → Datum → Datum → Option Datum
arith_of op v w = as_natural v >>= λ m. as_natural w >>= λ n. arith_by op m n >>= λ k. Some (natural k)

-- whether two values are so in the order of values
abbrev pub compare_of : CompareOp → Datum → Datum → Option Datum
compare_of op v w = Some (truth (compare_by op (datum_cmp v w)))

-- the sum of numbers, undefined past 2^128-1
abbrev pub sum_of : List Datum → Option Datum
sum_of vs = each as_natural vs >>= λ ns. in_range (sum ns)

-- an array's rank is 1 to 8
abbrev pub is_rank : ℕ → Bool
is_rank n = nat_lt 0 n && nat_lt n 9

-- the array of these dimensions and cells, where it has a rank and a cell for each index
abbrev pub array_of : List ℕ → List Datum → Option Datum
array_of ds vs = if is_rank (length ds) && nat_eq (product ds) (length vs) then Some (array ds (data_of vs)) else None

-- of a literal array: the dimensions, as many as the rank, and then the cells
abbrev pub literal_of : (rank : ℕ) → List Datum → Option Datum
literal_of rank vs = each as_natural (take rank vs) >>= λ ds. if nat_eq (length ds) rank then array_of ds (drop rank vs) else None

-- an index as a value: one number, or a tuple of numbers
abbrev pub index_value : List ℕ → Datum
index_value [] = tuple (data_of [])
index_value (n ∷ []) = natural n
index_value (m ∷ n ∷ ns) = tuple (data_of (map natural (m ∷ n ∷ ns)))

-- the numbers of an index before other values, the last number the innermost
abbrev pub push_index : List ℕ → List Datum → List Datum
push_index [] l = l
push_index (i ∷ is) l = push_index is (natural i ∷ l)

-- the dimensions of an array of that rank
abbrev pub dims_of : (rank : ℕ) → Datum → Option (List ℕ)
dims_of rank v = as_array v >>= λ t. if nat_eq (length t.dims) rank then Some t.dims else None

-- the dimensions as a value
abbrev pub dim_of : (rank : ℕ) → Datum → Option Datum
dim_of rank v = dims_of rank v >>= λ ds. Some (index_value ds)

-- the cell of an array at an index
abbrev pub cell_of : Datum → List ℕ → Option Datum
cell_of v at = as_array v >>= λ t. cell t at

-- the numbers of an index that is a value
abbrev pub index_numbers : (rank : ℕ) → Datum → Option (List ℕ)
index_numbers (suc zero) v = as_natural v >>= λ n. Some (n ∷ [])
index_numbers rank v = as_tuple v >>= each as_natural >>= λ at. if nat_eq (length at) rank then Some at else None

-- a pair of an index and a value
abbrev pub as_indexed : (rank : ℕ) → Datum → Option (List ℕ × Datum)
as_indexed rank v = part_of 1 2 v >>= index_numbers rank >>= λ at. part_of 2 2 v >>= λ w. Some (at, w)

-- the greater of two numbers, at each place
abbrev pub greater_each : List ℕ → List ℕ → List ℕ
greater_each [] ns = []
greater_each (m ∷ ms) [] = []
greater_each (m ∷ ms) (n ∷ ns) = max m n ∷ greater_each ms ns

-- the least dimensions that all the indices are below: 1 plus the greatest number at each place, and 0 where there is no index
abbrev pub dims_above : (rank : ℕ) → List (List ℕ) → List ℕ
dims_above rank [] = map (λ j. 0) (below rank)
dims_above rank (at ∷ rest) = greater_each (map suc at) (dims_above rank rest)

-- the values paired with an index
abbrev pub values_at : List ℕ → List (List ℕ × Datum) → List Datum
values_at at ps = map (λ p. p.1) (filter (λ p. pointwise nat_eq at p.0) ps)

-- whether each number is at most 2^128-1
abbrev pub all_in_range : List ℕ → Bool
all_in_range [] = true
all_in_range (n ∷ ns) = nat_lt n (2 ^ 128) && all_in_range ns

-- the array of these dimensions whose cell at an index is the set of the values paired with it
abbrev pub index_array : List ℕ → List (List ℕ × Datum) → Option Datum
index_array ds ps = if all_in_range ds then array_of ds (map (λ at. set_of (values_at at ps)) (indices ds)) else None

-- the array of the sets of values that a set of pairs has at each index
abbrev pub index_of : (rank : ℕ) → Datum → Option Datum
index_of rank v = as_set v >>= each (as_indexed rank) >>= λ ps. index_array (dims_above rank (map (λ p. p.0) ps)) ps
