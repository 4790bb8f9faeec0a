-- The values of the language as mathematical data: what contracts see of a `Value`.
use Rattle.std.specs.Prelude.{ℕ, Bool, List, [], ◌∷◌}

-- a natural, a truth value, a string of bytes, a tuple, a set by its ascending members, an array by its dimensions and its cells in row-major order
mutual
  -- a value of the language
  pub data Datum : Type 0 where
    natural : ℕ → Datum
    truth : Bool → Datum
    text : List ℕ → Datum
    tuple : Data → Datum
    set : Data → Datum
    array : List ℕ → Data → Datum

  -- values, in order
  pub data Data : Type 0 where
    nil : Data
    cons : Datum → Data → Data

-- a list of values as the parts, members or cells of one
abbrev pub data_of : List Datum → Data
data_of [] = nil
data_of (x ∷ xs) = cons x (data_of xs)

-- parts, members or cells as a list
abbrev pub list_of : Data → List Datum
list_of nil = []
list_of (cons x xs) = x ∷ list_of xs

-- what contracts see of a `Cells`: the dimensions, and the cells in row-major order
pub record Table : Type 0 where
  pub dims : List ℕ
  pub cells : List Datum
