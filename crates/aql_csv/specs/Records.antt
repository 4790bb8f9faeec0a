-- The records of bytes.
use Rattle.std.specs.Prelude.{ℕ, List}
use Rattle.csv.specs.declared.error.ErrorKind.{ErrorKind}
use Rattle.csv.specs.declared.error.ErrorKind.TheVariants as kind
use Rattle.csv.specs.Reading.{default_config, records, strip_bom}

-- the fields of a record, each a string of bytes
abbrev pub Record : Type 0
Record = List (List ℕ)

-- the records of bytes as in RFC 4180, with commas and double quotes and of any length: a record ends at CR, LF or CR LF,
-- a line without bytes is none, and a byte order mark at the start counts for nothing
abbrev pub records_of : List ℕ → List Record
records_of bytes = records default_config (strip_bom bytes)

-- an error that no record explains: of the bytes underneath, or of memory
abbrev pub IsReadError : ErrorKind → Type 0
IsReadError (kind.Io e) = Unit {0}
IsReadError kind.OutOfMemory = Unit {0}
IsReadError e = ⊥
