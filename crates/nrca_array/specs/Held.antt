-- What an array, a set and a value that are kept stand for.
use Rattle.aql_value.specs.Datum.{Datum, array, set, data_of, Table}
use Rattle.aql_value.specs.Meaning.{datum}
use Rattle.nrca_array.specs.declared.held.Held.{Held}
use Rattle.nrca_array.specs.declared.held.Held.TheVariants as held

-- an array as a value
abbrev pub table_datum : Table → Datum
table_datum t = array t.dims (data_of t.cells)

-- the value that is held
abbrev pub held_datum : Held → Datum
held_datum (held.Value v) = datum v
held_datum (held.Flat a) = table_datum a
held_datum (held.Set s) = set (data_of s)
