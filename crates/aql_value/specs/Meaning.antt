-- What a `Value` stands for.
use Rattle.aql_value.specs.Datum.{Datum, natural, truth, text, tuple, set, array, data_of}
use Rattle.aql_value.specs.declared.value.Value.{Value}
use Rattle.aql_value.specs.declared.value.Value.TheVariants.{Nat, Bool, Text, Row, Members, Grid}

-- the value that a `Value` stands for
abbrev pub datum : Value → Datum
datum (Nat n) = natural n
datum (Bool b) = truth b
datum (Text s) = text s
datum (Row p) = tuple (data_of p)
datum (Members m) = set (data_of m)
datum (Grid c) = array c.dims (data_of c.cells)
