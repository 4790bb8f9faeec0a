-- Where the cells of a variable stand, and how many records there are. Numbers without end.
use Rattle.std.specs.Cmp.Lexicographic.{pointwise}
use Rattle.std.specs.List.{position_from}
use Rattle.std.specs.Prelude.{ℕ, ◌+◌, ◌-◌, ◌*◌, ◌/◌, ◌^◌, min, Bool, cond, nat_eq, false, List, [], ◌∷◌, map, get_or, Option, Some, None}
use Rattle.aql_value.specs.Indices.{product, offset}
use Rattle.cdf_header.specs.Header.{Var, Head}
use Rattle.cdf_header.specs.Format.{padded_size, type_size, wide}

-- the length in the header of the dimension with this number
abbrev pub len_at : List ℕ → ℕ → ℕ
len_at ds i = get_or ds i 0

-- the lengths of the dimensions with these numbers
abbrev pub lens : List ℕ → List ℕ → List ℕ
lens ds is = map (len_at ds) is

-- the first of these dimensions is the record dimension
abbrev pub is_over_records : List ℕ → List ℕ → Bool
is_over_records ds [] = false
is_over_records ds (i ∷ is) = nat_eq (len_at ds i) 0

-- a record variable
abbrev pub is_record : List ℕ → Var → Bool
is_record ds v = is_over_records ds v.ids

-- all but the first
abbrev pub inner : List ℕ → List ℕ
inner [] = []
inner (i ∷ is) = is

-- the bytes of one record of a record variable, its slab
abbrev pub slab_size : List ℕ → Var → ℕ
slab_size ds v = product (lens ds (inner v.ids)) * type_size v.kind

-- the number of record variables
abbrev pub record_count : List ℕ → List Var → ℕ
record_count ds [] = 0
record_count ds (v ∷ vs) = cond (is_record ds v) 1 0 + record_count ds vs

-- the bytes of their slabs
abbrev pub plain_sum : List ℕ → List Var → ℕ
plain_sum ds [] = 0
plain_sum ds (v ∷ vs) = cond (is_record ds v) (slab_size ds v) 0 + plain_sum ds vs

-- the same, each slab padded to a multiple of 4
abbrev pub padded_sum : List ℕ → List Var → ℕ
padded_sum ds [] = 0
padded_sum ds (v ∷ vs) = cond (is_record ds v) (padded_size (slab_size ds v)) 0 + padded_sum ds vs

-- the bytes of a record: each slab padded, but not that of a single record variable
abbrev pub recsize : List ℕ → List Var → ℕ
recsize ds vs = cond (nat_eq (record_count ds vs) 1) (plain_sum ds vs) (padded_sum ds vs)

-- the smaller of a number and one that may be absent
abbrev pub nearer : ℕ → Option ℕ → ℕ
nearer b None = b
nearer b (Some c) = min b c

-- the least begin of some record variables, with that of one more, if it is one
abbrev pub with_begin : List ℕ → Var → Option ℕ → Option ℕ
with_begin ds v found = cond (is_record ds v) (Some (nearer v.begin found)) found

-- the least begin of a record variable, where there is one
abbrev pub least : List ℕ → List Var → Option ℕ
least ds [] = None
least ds (v ∷ vs) = with_begin ds v (least ds vs)

-- a field with all bits set
abbrev pub all_bits : ℕ → ℕ
all_bits version = 2 ^ (8 * wide version) - 1

-- how many whole records of so many bytes stand between the least begin and the end of the file
abbrev pub whole_records : ℕ → ℕ → Option ℕ → ℕ
whole_records bytes size None = 0
whole_records bytes size (Some begin) = cond (nat_eq size 0) 0 ((bytes - begin) / size)

-- the number of records: that of the header, or where it gives none, the whole records that the file has room for
abbrev pub records : Head → ℕ
records h = cond (nat_eq h.numrecs (all_bits h.version)) (whole_records h.bytes (recsize h.dims h.vars) (least h.dims h.vars)) h.numrecs

-- the variable with this number
abbrev pub var_in : List Var → ℕ → Var
var_in vs v = get_or vs v (record { name = []; ids = []; kind = 0; begin = 0 })

-- the variable of a header with this number
abbrev pub variable_at : Head → ℕ → Var
variable_at h v = var_in h.vars v

-- the length of a dimension by its number: for the record dimension the number of records
abbrev pub extent : Head → ℕ → ℕ
extent h i = cond (nat_eq (len_at h.dims i) 0) (records h) (len_at h.dims i)

-- the lengths of a variable's dimensions
abbrev pub shape : Head → Var → List ℕ
shape h v = map (extent h) v.ids

-- the offset of the first byte of the cell at an index: row-major from the begin, a record variable's slabs one record apart
abbrev pub place_of : List ℕ → List Var → Var → List ℕ → ℕ
place_of ds vs v [] = v.begin
place_of ds vs v (r ∷ at) = cond (is_record ds v)
    (r * recsize ds vs + v.begin + offset (lens ds (inner v.ids)) at * type_size v.kind)
    (offset (lens ds v.ids) (r ∷ at) * type_size v.kind + v.begin)

-- the same by the header
abbrev pub place : Head → Var → List ℕ → ℕ
place h v at = place_of h.dims h.vars v at

-- the bytes from one index of a dimension to the next, for numbers of so many bytes
abbrev pub pitches_in : ℕ → List ℕ → List ℕ
pitches_in size [] = []
pitches_in size (d ∷ ds) = (product ds * size) ∷ pitches_in size ds

-- those of a variable: a record variable's records stand one record apart
abbrev pub pitches : List ℕ → List Var → Var → List ℕ
pitches ds vs v = cond (is_record ds v) (recsize ds vs ∷ pitches_in (type_size v.kind) (lens ds (inner v.ids))) (pitches_in (type_size v.kind) (lens ds v.ids))

-- the number of the first of these variables of a name, counted from i, where there is one
abbrev pub find_from : (i : ℕ) → List Var → (name : List ℕ) → Option ℕ
find_from i vs name = position_from (λ v. pointwise nat_eq v.name name) i vs

-- the number of the first variable of a name, where there is one
abbrev pub find_in : List Var → (name : List ℕ) → Option ℕ
find_in vs name = find_from 0 vs name
