-- Laws: what records mean has the type that the reader's kinds say.
use Rattle.aql_value.specs.Datum.{Datum}
use Rattle.aql_ty.specs.Types as types
use Rattle.aql_ty.specs.ValueTypes.{HasType}
use Rattle.aql_syntax.specs.Typing.{record_type}
use Rattle.aql_syntax.specs.declared.ast.CsvReader.{CsvReader}
use Rattle.aql_csv.specs.File.{set_of}

-- a value has the type that the reader's kinds say: a set of numbers, of strings, or of tuples of them
abbrev pub IsOfReader : CsvReader → Datum → Type 0
IsOfReader reader d = HasType (types.set_of (record_type reader.kinds.items.items)) d
