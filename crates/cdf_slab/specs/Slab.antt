-- The hyperslab of a variable: its cells, and why it has none.
use Rattle.std.specs.Prelude.{◌≡◌, ◌≢◌, ℕ, ◌+◌, ◌-◌, ◌*◌, ◌≤◌, ◌<◌, Bool, false, not, ◌||◌, nat_eq, nat_lt, List, [], ◌∷◌, length, map, Option, Some, None, option_map, Result, Ok, Err, IfErr, ◌⊎◌, if◌then◌else◌}
use Rattle.std.specs.Str.{IsUtf8}
use Rattle.aql_value.specs.Datum.{Table}
use Rattle.aql_value.specs.Indices.{indices, product}
use Rattle.aql_value.specs.Lists.{Every}
use Rattle.aql_value.specs.Partial.{◌>>=◌, each, or_else}
use Rattle.aql_value.specs.Limits.{saturate}
use Rattle.cdf_header.specs.declared.fault.CdfFault.{CdfFault}
use Rattle.cdf_header.specs.declared.fault.CdfFault.TheVariants as faults
use Rattle.cdf_header.specs.Format.{type_size}
use Rattle.cdf_header.specs.Header.{Head, Var}
use Rattle.cdf_header.specs.Places.{place, shape}
use Rattle.cdf_slab.specs.Numbers.{Number, IsCell, number_at, cell_of}

-- the most cells of a hyperslab
abbrev pub most_cells : ℕ
most_cells = 50000000

-- start + i * stride, dimension by dimension
abbrev pub point : (start stride at : List ℕ) → List ℕ
point (s ∷ ss) (t ∷ ts) (i ∷ at) = (s + i * t) ∷ point ss ts at
point ss ts at = []

-- the offsets of the cells, in row-major order
abbrev pub cell_offsets : Head → Var → (start count stride : List ℕ) → List ℕ
cell_offsets h v start count stride = map (λ i. place h v (point start stride i)) (indices count)

-- the numbers that stand there
abbrev pub slab_numbers : (bytes : List ℕ) → Head → Var → (start count stride : List ℕ) → List Number
slab_numbers bytes h v start count stride = map (number_at bytes v.kind) (cell_offsets h v start count stride)

-- the array whose dimensions are the counts and whose cell at i is the number spelled at the place of start + i * stride
abbrev pub slab : (bytes : List ℕ) → Head → Var → (start count stride : List ℕ) → (signed : Bool) → Option Table
slab bytes h v start count stride signed =
    each (cell_of signed) (slab_numbers bytes h v start count stride) >>= λ cells. Some (record { dims = count; cells = cells })

-- float and double
abbrev pub is_floating : ℕ → Bool
is_floating kind = nat_eq kind 5 || nat_eq kind 6

-- the first stride that is 0, counted from k
abbrev pub first_zero : ℕ → (strides : List ℕ) → Option ℕ
first_zero k [] = None
first_zero k (t ∷ ts) = if nat_eq t 0 then Some k else first_zero (k + 1) ts

-- whether a dimension of length n lacks one of the indices from s on, c of them, t apart; without an index the start may be the length
abbrev pub passes : (n s c t : ℕ) → Bool
passes n s c t = if nat_eq c 0 then nat_lt n s else not (nat_lt (s + (c - 1) * t) n)

-- the first dimension that does, counted from k
abbrev pub first_outside : ℕ → (lengths start count stride : List ℕ) → Option ℕ
first_outside k (n ∷ ns) (s ∷ ss) (c ∷ cs) (t ∷ ts) = if passes n s c t then Some k else first_outside (k + 1) ns ss cs ts
first_outside k ns ss cs ts = None

-- the first offset where a number of so many bytes passes the end, or 2^128-1 where it is larger
abbrev pub first_cut : (size end : ℕ) → List ℕ → Option ℕ
first_cut size end [] = None
first_cut size end (p ∷ ps) = if nat_lt end (p + size) then Some (saturate p) else first_cut size end ps

-- the first number below 0, counted from k
abbrev pub first_negative : ℕ → List Number → Option ℕ
first_negative k [] = None
first_negative k (n ∷ ns) = if n.0 then Some k else first_negative (k + 1) ns

-- the variable has another rank, or its numbers are floating
abbrev pub wrong_variable : Var → (rank : ℕ) → Option CdfFault
wrong_variable v rank = if nat_eq (length v.ids) rank then (if is_floating v.kind then Some faults.FloatVariable else None) else Some (faults.Rank (length v.ids))

-- the first fault of the variable, the strides and the indices: Rank, FloatVariable, Stride, Outside
abbrev pub index_fault : Head → Var → (start count stride : List ℕ) → Option CdfFault
index_fault h v start count stride =
    or_else (wrong_variable v (length start))
    (or_else (option_map faults.Stride (first_zero 1 stride))
    (option_map faults.Outside (first_outside 1 (shape h v) start count stride)))

-- the first cell whose bytes pass the end of the file
abbrev pub cut_fault : Head → Var → (start count stride : List ℕ) → Option CdfFault
cut_fault h v start count stride = option_map faults.Cut (first_cut (type_size v.kind) h.bytes (cell_offsets h v start count stride))

-- the first fault that the header tells: these, and then Cut
abbrev pub early_fault : Head → Var → (start count stride : List ℕ) → Option CdfFault
early_fault h v start count stride = or_else (index_fault h v start count stride) (cut_fault h v start count stride)

-- the first cell below 0, for a reader of naturals
abbrev pub negative_fault : (signed : Bool) → List Number → Option CdfFault
negative_fault signed ns = if signed then None else option_map faults.Negative (first_negative 0 ns)

-- the first fault of a hyperslab
abbrev pub slab_fault : (bytes : List ℕ) → Head → Var → (start count stride : List ℕ) → (signed : Bool) → Option CdfFault
slab_fault bytes h v start count stride signed =
    or_else (early_fault h v start count stride) (negative_fault signed (slab_numbers bytes h v start count stride))

-- what is answered, where the file is told: the hyperslab where there is no fault, and else the first; the device and memory apart
abbrev pub IsSlabAnswer : Option CdfFault → Option Table → Result Table CdfFault → Type 0
IsSlabAnswer fault array (Ok found) = (fault ≡ None) × (array ≡ Some found)
IsSlabAnswer fault array (Err faults.Device) = Unit {0}
IsSlabAnswer fault array (Err faults.Memory) = Unit {0}
IsSlabAnswer fault array (Err e) = fault ≡ Some e

-- the same by the file's bytes and what is asked for
abbrev pub AnswersSlab : (bytes : List ℕ) → Head → Var → (start count stride : List ℕ) → (signed : Bool) → Result Table CdfFault → Type 0
AnswersSlab bytes h v start count stride signed result =
    h.bytes ≡ length bytes → IsSlabAnswer (slab_fault bytes h v start count stride signed) (slab bytes h v start count stride signed) result

-- the same where the variable, the strides and the indices are right
abbrev pub AnswersRead : (bytes : List ℕ) → Head → Var → (start count stride : List ℕ) → (signed : Bool) → Result Table CdfFault → Type 0
AnswersRead bytes h v start count stride signed result =
    h.bytes ≡ length bytes → IsSlabAnswer (or_else (cut_fault h v start count stride) (negative_fault signed (slab_numbers bytes h v start count stride))) (slab bytes h v start count stride signed) result

-- a fault that the header tells is answered, memory apart
abbrev pub AnswersEarly : Option CdfFault → Result Table CdfFault → Type 0
AnswersEarly None result = Unit {0}
AnswersEarly (Some f) (Ok found) = ⊥
AnswersEarly (Some f) (Err e) = (e ≡ f) ⊎ (e ≡ faults.Memory)

-- an array of these dimensions and of cells of numbers
pub record IsShaped (count : List ℕ) (signed : Bool) (t : Table) : Type 0 where
  pub dims : t.dims ≡ count
  pub full : product count ≡ length t.cells
  pub kinds : Every (IsCell signed) t.cells

-- a fault that may come of so many cells where the variable, the strides and the indices are right
abbrev pub IsLate : (signed : Bool) (many : ℕ) → CdfFault → Type 0
IsLate signed many (faults.Cut at) = Unit {0}
IsLate signed many (faults.Negative c) = (signed ≡ false) × (c < many)
IsLate signed many faults.Device = Unit {0}
IsLate signed many faults.Memory = Unit {0}
IsLate signed many e = ⊥

-- where the variable, the strides and the indices are right, no other fault comes than these
abbrev pub IsLateOf : Head → Var → (start count stride : List ℕ) → (signed : Bool) → Result Table CdfFault → Type 0
IsLateOf h v start count stride signed result =
    index_fault h v start count stride ≡ None → IfErr result (IsLate signed (product count))

-- what a fault says of what is asked for, whatever the files tell
abbrev pub IsOfRequest : (start count stride : List ℕ) → (signed : Bool) → CdfFault → Type 0
IsOfRequest start count stride signed (faults.Rank r) = r ≢ length start
IsOfRequest start count stride signed (faults.Stride j) = first_zero 1 stride ≡ Some j
IsOfRequest start count stride signed (faults.Outside j) = (1 ≤ j) × (j ≤ length start)
IsOfRequest start count stride signed (faults.Negative c) = (signed ≡ false) × (c < product count)
IsOfRequest start count stride signed e = Unit {0}

-- no cell is asked for, or the header tells a fault
abbrev pub NeedsNoCell : Head → Var → (start count stride : List ℕ) → Type 0
NeedsNoCell h v start count stride = (product count ≡ 0) ⊎ ((f : CdfFault) × (early_fault h v start count stride ≡ Some f))

-- the name is not UTF-8, no cell is asked for, or the header tells a fault
abbrev pub AsksNothing : (name : List ℕ) → Head → Var → (start count stride : List ℕ) → Type 0
AsksNothing name h v start count stride = (¬ (IsUtf8 name)) ⊎ NeedsNoCell h v start count stride
