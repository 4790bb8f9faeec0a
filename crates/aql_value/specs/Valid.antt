-- Which data are values of the language: what holds of the meaning of each `Value`.
use Rattle.std.specs.Prelude.{◌<◌, ◌≤◌, ◌^◌, length}
use Rattle.std.specs.List.{All}
use Rattle.aql_value.specs.Datum.{Datum, natural, truth, text, tuple, set, array, Data, nil, cons, list_of}
use Rattle.aql_value.specs.Canon.{IsAscending}
use Rattle.aql_value.specs.Indices.{IsTable}
use Rattle.aql_value.specs.Strict.{Strict}

-- naturals below 2^128, bytes, two parts or more, ascending members, 1 to 8 dimensions and a cell for each index, at every level
abbrev mutual
  -- numbers fit 128 bits, bytes 8, and each list obeys the rules of its kind, at every level
  pub IsValue : Datum → Type 0
  IsValue (natural n) = n < 2 ^ 128
  IsValue (truth b) = Unit {0}
  IsValue (text s) = All (λ b. b < 256) s
  IsValue (tuple xs) = (2 ≤ length (list_of xs)) × AreValues xs
  IsValue (set xs) = IsAscending (list_of xs) × AreValues xs
  IsValue (array ds xs) = All (λ d. d < 2 ^ 128) ds × IsTable (record { dims = ds; cells = list_of xs }) × AreValues xs

  -- each is a value of the language
  pub AreValues : Data → Type 0
  AreValues nil = Unit {0}
  AreValues (cons x xs) = IsValue x × AreValues xs

-- a constant of a form is a value
abbrev pub HasValidConstant : Strict → Type 0
HasValidConstant (Strict.nat n) = n < 2 ^ 128
HasValidConstant (Strict.text s) = All (λ b. b < 256) s
HasValidConstant _ = Unit {0}
