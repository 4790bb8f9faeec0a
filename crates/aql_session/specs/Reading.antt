-- What is read of files: the value of a readval, or the first fault.
use Rattle.std.specs.Prelude.{◌≡◌, ℕ, List, Bool, Option, Some, None, option_map, Result, Ok, Err, if◌then◌else◌}
use Rattle.std.specs.Result.{result_ok}
use Rattle.std.specs.Str.{is_utf8}
use Rattle.aql_outside.specs.Contents.{Content}
use Rattle.aql_value.specs.Datum.{Datum}
use Rattle.aql_value.specs.Partial.{◌>>=◌}
use Rattle.aql_syntax.specs.Script.{ReaderMeaning}
use Rattle.aql_syntax.specs.declared.ast.Kind.{Kind}
use Rattle.aql_csv.specs.File.{set_of}
use Rattle.aql_csv.specs.declared.fault.CsvFault.{CsvFault}
use Rattle.aql_csv.specs.declared.fault.CsvFault.TheVariants as csv_faults
use Rattle.cdf_header.specs.File.{header_of}
use Rattle.cdf_header.specs.Header.{Head, Var}
use Rattle.cdf_header.specs.Places.{find_in, variable_at}
use Rattle.cdf_header.specs.declared.fault.CdfFault.{CdfFault}
use Rattle.cdf_header.specs.declared.fault.CdfFault.TheVariants as faults
use Rattle.cdf_slab.specs.Slab.{slab, slab_fault}
use Rattle.nrca_array.specs.Held.{table_datum}
use Rattle.aql_session.specs.Asked.{Hyperslab, Asked, hyperslab, table, asked_of}

-- a file's bytes, its header and the variable
pub record Opened : Type 0 where
  pub bytes : List ℕ
  pub head : Head
  pub variable : Var

-- the variable of the name, or NoVariable
abbrev pub in_header : List ℕ → Head → Option ℕ → Result Opened CdfFault
in_header bytes h None = Err faults.NoVariable
in_header bytes h (Some v) = Ok (record { bytes = bytes; head = h; variable = variable_at h v })

-- the variable in the file of this header, or the fault of the header
abbrev pub in_file : Hyperslab → List ℕ → Result Head CdfFault → Result Opened CdfFault
in_file a bytes (Err f) = Err f
in_file a bytes (Ok h) = in_header bytes h (find_in h.vars a.variable)

-- the variable in the file of these bytes; without a file Absent
abbrev pub at_name : Hyperslab → Option (List ℕ) → Result Opened CdfFault
at_name a None = Err faults.Absent
at_name a (Some bytes) = in_file a bytes (header_of bytes)

-- the bytes of the file of this name; a name that is not UTF-8 names no file
abbrev pub file_in : Content → List ℕ → Option (List ℕ)
file_in files name = if is_utf8 name then files name else None

-- what is asked for is opened, or the first fault: Absent, the header's, NoVariable
abbrev pub open_hyperslab : Content → Hyperslab → Result Opened CdfFault
open_hyperslab files a = at_name a (file_in files a.file)

-- the fault of what was opened, or else of the hyperslab in it
abbrev pub fault_in : Hyperslab → Result Opened CdfFault → Option CdfFault
fault_in a (Err f) = Some f
fault_in a (Ok o) = slab_fault o.bytes o.head o.variable a.start a.count a.stride a.signed

-- the first fault of a read: of opening, and then the hyperslab's
abbrev pub read_fault : Content → Hyperslab → Option CdfFault
read_fault files a = fault_in a (open_hyperslab files a)

-- the hyperslab of what was opened
abbrev pub value_in : Hyperslab → Result Opened CdfFault → Option Datum
value_in a (Err f) = None
value_in a (Ok o) = option_map table_datum (slab o.bytes o.head o.variable a.start a.count a.stride a.signed)

-- f where there is no fault
abbrev pub unless : Option CdfFault → Option Datum → Option Datum
unless None v = v
unless (Some f) v = None

-- the value of a hyperslab, and none where there is a fault
abbrev pub read_hyperslab : Content → Hyperslab → Option Datum
read_hyperslab files a = unless (read_fault files a) (value_in a (open_hyperslab files a))

-- the table that these bytes are, or the first fault of their records; without a file Absent
abbrev pub in_table : (header : Bool) → List Kind → Option (List ℕ) → Result Datum CsvFault
in_table header ks None = Err csv_faults.Absent
in_table header ks (Some bytes) = set_of header ks bytes

-- the table of a file of records, or its first fault
abbrev pub read_table : Content → (file : List ℕ) → (header : Bool) → List Kind → Result Datum CsvFault
read_table files file header ks = in_table header ks (file_in files file)

-- the value of a read, and none where there is a fault
abbrev pub read_value : Content → Asked → Option Datum
read_value files (hyperslab h) = read_hyperslab files h
read_value files (table file header ks) = result_ok (read_table files file header ks)

-- a read has no fault
abbrev pub IsFaultless : Content → Asked → Type 0
IsFaultless files (hyperslab h) = read_fault files h ≡ None
IsFaultless files (table file header ks) = (w : Datum) × (read_table files file header ks ≡ Ok w)

-- what readers make of their arguments' values, over these files
abbrev pub reading : Content → ReaderMeaning
reading files reader v = asked_of reader v >>= read_value files
