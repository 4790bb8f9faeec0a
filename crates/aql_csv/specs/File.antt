-- What a file of records gives.
use Rattle.std.specs.Prelude.{◌≡◌, ℕ, ◌<◌, List, length, Bool, Option, Some, None, Result, Ok, Err, IsErrOf, nat_lt, if◌then◌else◌}
use Rattle.aql_outside.specs.Contents.{Content}
use Rattle.aql_value.specs.Datum.{Datum, set, data_of}
use Rattle.aql_value.specs.Canon.{canon}
use Rattle.aql_value.specs.Meaning.{datum}
use Rattle.aql_syntax.specs.declared.ast.CsvReader.{CsvReader}
use Rattle.aql_syntax.specs.declared.ast.Kind.{Kind}
use Rattle.aql_csv.specs.Rows.{result_map, rows}
use Rattle.aql_csv.specs.declared.file.Csv.{Csv}
use Rattle.aql_csv.specs.declared.fault.CsvFault.{CsvFault}
use Rattle.aql_csv.specs.declared.fault.CsvFault.TheVariants as faults

-- the set of the values of the records of bytes, or the fault of the first that has one
abbrev pub set_of : (header : Bool) → List Kind → List ℕ → Result Datum CsvFault
set_of header ks bytes = result_map (λ values. set (data_of (canon values))) (rows header ks bytes)

-- the set that a file gives, and the file's size
pub record FoundSet : Type 0 where
  pub value : Datum
  pub bytes : ℕ

-- what the code answers as such a pair
abbrev pub found_of : Csv → FoundSet
found_of csv = record { value = datum csv.value; bytes = csv.bytes }

-- what a file of these bytes gives within a budget of bytes, None where there is no file: the faults in their order
abbrev pub outcome : (header : Bool) → List Kind → (budget : ℕ) → Option (List ℕ) → Result FoundSet CsvFault
outcome header ks budget None = Err faults.Absent
outcome header ks budget (Some bytes) =
    if nat_lt budget (length bytes) then Err (faults.Long (length bytes))
    else result_map (λ value. record { value = value; bytes = length bytes }) (set_of header ks bytes)

-- the same by a reader
abbrev pub read_by : CsvReader → (budget : ℕ) → Option (List ℕ) → Result FoundSet CsvFault
read_by reader budget content = outcome reader.header reader.kinds.items.items budget content

-- what is meant is answered, unless the device failed or memory was wanting
abbrev pub IsCsvAnswer : Result FoundSet CsvFault → Result Csv CsvFault → Type 0
IsCsvAnswer meant (Ok csv) = meant ≡ Ok (found_of csv)
IsCsvAnswer meant (Err faults.Device) = Unit {0}
IsCsvAnswer meant (Err faults.Memory) = Unit {0}
IsCsvAnswer meant (Err e) = meant ≡ Err e

-- what is answered where the files tell their bytes: what the file of the name gives, or that there is none
abbrev pub IsTold : Option Content → (name : List ℕ) → CsvReader → (budget : ℕ) → Result Csv CsvFault → Type 0
IsTold holds name reader budget result =
    (content : Content) → holds ≡ Some content → IsCsvAnswer (read_by reader budget (content name)) result

-- what is answered whatever the files tell: a value, or the fault of a record, is what some bytes give; the size that is too
-- long is past the budget, and the byte that is missing is within it
abbrev pub IsGiven : CsvReader → (budget : ℕ) → Result Csv CsvFault → Type 0
IsGiven reader budget (Ok csv) = (bytes : List ℕ) × (read_by reader budget (Some bytes) ≡ Ok (found_of csv))
IsGiven reader budget (Err (faults.Fields r n)) = (bytes : List ℕ) × (read_by reader budget (Some bytes) ≡ Err (faults.Fields r n))
IsGiven reader budget (Err (faults.Number r f)) = (bytes : List ℕ) × (read_by reader budget (Some bytes) ≡ Err (faults.Number r f))
IsGiven reader budget (Err (faults.Long n)) = budget < n
IsGiven reader budget (Err (faults.Cut k)) = k < budget
IsGiven reader budget (Err e) = Unit {0}

-- the device is answered to have failed
abbrev pub IsDevice : {T : Type 0} → Result T CsvFault → Type 0
IsDevice result = IsErrOf result faults.Device

-- ---- words within the crate

-- where there are so many bytes they are read whole, and where there are fewer the read was cut behind the last of them; unless the device failed
-- or memory was wanting
abbrev pub IsReadWhole : List ℕ → (size : ℕ) → Result (List ℕ) CsvFault → Type 0
IsReadWhole bytes size (Ok found) = size ≡ length bytes → found ≡ bytes
IsReadWhole bytes size (Err faults.Device) = Unit {0}
IsReadWhole bytes size (Err faults.Memory) = Unit {0}
IsReadWhole bytes size (Err (faults.Cut k)) = (k ≡ length bytes) × (k < size)
IsReadWhole bytes size (Err e) = ⊥

-- a fault of a read of so many bytes
abbrev pub IsOfReading : ℕ → CsvFault → Type 0
IsOfReading size (faults.Cut k) = k < size
IsOfReading size faults.Device = Unit {0}
IsOfReading size faults.Memory = Unit {0}
IsOfReading size e = ⊥
