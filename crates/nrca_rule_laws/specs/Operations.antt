-- An operation of a sure form has a value where its parts have values of the right types (`strict-defined`).
use Rattle.std.proofs.Common.{◌≡◌, Option, Some}
use Rattle.aql_value.specs.Datum.{Datum}

-- has a value
abbrev pub Valued : Option Datum → Type 0
Valued o = (v : Datum) × (o ≡ Some v)
