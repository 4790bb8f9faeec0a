-- What the records of a file mean by the kinds of their fields, and the first fault.
use Rattle.std.specs.Prelude.{◌≡◌, ℕ, ◌+◌, List, [], ◌∷◌, length, drop, map, Bool, Option, Some, None, option_map, Result, Ok, Err, nat_eq, ◌++◌, ◌&&◌, if◌then◌else◌}
use Rattle.aql_value.specs.declared.value.Value.{Value}
use Rattle.aql_value.specs.Meaning.{datum}
use Rattle.aql_value.specs.Datum.{Datum, natural, text, tuple, data_of}
use Rattle.aql_syntax.specs.declared.ast.Kind.{Kind}
use Rattle.aql_syntax.specs.declared.ast.Kind.TheVariants as kinds
use Rattle.aql_csv.specs.Records.{Record, records_of}
use Rattle.aql_csv.specs.Number.{number_of}
use Rattle.aql_csv.specs.declared.fault.CsvFault.{CsvFault}
use Rattle.aql_csv.specs.declared.fault.CsvFault.TheVariants as faults

-- what a field means by its kind, None where it should be a number and is none
abbrev pub field_value : Kind → List ℕ → Option Datum
field_value kinds.Number field = option_map natural (number_of field)
field_value kinds.Bytes field = Some (text field)

-- a value in front of others, or the first fault
abbrev pub in_front : {A E : Type 0} → Result A E → Result (List A) E → Result (List A) E
in_front (Err e) rest = Err e
in_front (Ok a) (Err e) = Err e
in_front (Ok a) (Ok rest) = Ok (a ∷ rest)

-- a value, or this fault where there is none
abbrev pub or_fault : {A E : Type 0} → E → Option A → Result A E
or_fault e None = Err e
or_fault e (Some a) = Ok a

-- the values of the fields of record number r from field number f on, or the first fault
abbrev pub field_values : ℕ → ℕ → List Kind → Record → Result (List Datum) CsvFault
field_values r f [] fields = Ok []
field_values r f (k ∷ ks) [] = Ok []
field_values r f (k ∷ ks) (x ∷ xs) = in_front (or_fault (faults.Number r f) (field_value k x)) (field_values r (f + 1) ks xs)

-- the value of a record: that of its one field, or a tuple
abbrev pub record_value : List Datum → Datum
record_value [] = tuple (data_of [])
record_value (v ∷ []) = v
record_value (v ∷ w ∷ vs) = tuple (data_of (v ∷ w ∷ vs))

-- a function of what is there, where it is there
abbrev pub result_map : {A B E : Type 0} → (A → B) → Result A E → Result B E
result_map f (Ok a) = Ok (f a)
result_map f (Err e) = Err e

-- the value of record number r, or its fault
abbrev pub row : List Kind → ℕ → Record → Result Datum CsvFault
row ks r fields =
    if nat_eq (length fields) (length ks) then result_map record_value (field_values r 1 ks fields)
    else Err (faults.Fields r (length fields))

-- the values of records, the first of which is record number r, or the fault of the first that has one
abbrev pub rows_from : List Kind → ℕ → List Record → Result (List Datum) CsvFault
rows_from ks r [] = Ok []
rows_from ks r (x ∷ xs) = in_front (row ks r x) (rows_from ks (r + 1) xs)

-- the values of the records of bytes, without the first record where it names the fields
abbrev pub rows : (header : Bool) → List Kind → List ℕ → Result (List Datum) CsvFault
rows header ks bytes = if header then rows_from ks 2 (drop 1 (records_of bytes)) else rows_from ks 1 (records_of bytes)

-- ---- words within the crate

-- the values of the records behind a place of the bytes, of which the first is record number r
abbrev pub rows_behind : (header : Bool) → List Kind → ℕ → List Record → Result (List Datum) CsvFault
rows_behind header ks r records = if header && nat_eq r 1 then rows_from ks (r + 1) (drop 1 records) else rows_from ks r records

-- values in front of others, where those are there
abbrev pub all_in_front : {A E : Type 0} → List A → Result (List A) E → Result (List A) E
all_in_front front (Err e) = Err e
all_in_front front (Ok rest) = Ok (front ++ rest)

-- this fault is meant, unless it is want of memory
abbrev pub StopsAt : {A : Type 0} → CsvFault → Result A CsvFault → Type 0
StopsAt faults.Memory meant = Unit {0}
StopsAt e meant = meant ≡ Err e

-- what is answered where this is meant, want of memory apart
abbrev pub GivesValue : {A B : Type 0} → (B → A) → Result A CsvFault → Result B CsvFault → Type 0
GivesValue view meant (Ok b) = meant ≡ Ok (view b)
GivesValue view meant (Err e) = StopsAt e meant

-- values mean, in front of record number r and any more behind it, what other values mean in front of those more
abbrev pub AddsValues : (header : Bool) → List Kind → ℕ → Record → List Value → List Value → Type 0
AddsValues header ks r entry before now =
    (more : List Record) → all_in_front (map datum before) (rows_behind header ks r (entry ∷ more)) ≡ all_in_front (map datum now) (rows_behind header ks (r + 1) more)

-- values mean, in front of record number r and any more behind it, this fault, unless it is want of memory
abbrev pub FailsWith : (header : Bool) → List Kind → ℕ → Record → List Value → CsvFault → Type 0
FailsWith header ks r entry before e = (more : List Record) → StopsAt e (all_in_front (map datum before) (rows_behind header ks r (entry ∷ more)))

-- a fault of records, or want of memory
abbrev pub IsOfRecords : CsvFault → Type 0
IsOfRecords (faults.Fields r n) = Unit {0}
IsOfRecords (faults.Number r f) = Unit {0}
IsOfRecords faults.Memory = Unit {0}
IsOfRecords e = ⊥
