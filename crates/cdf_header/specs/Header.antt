-- What a header says.
use Rattle.std.specs.Global.{Vec}
use Rattle.std.specs.Prelude.{ℕ, List, map}
use Rattle.cdf_header.specs.declared.header.Variable.{Variable}

-- a variable: its dimensions' numbers, the number of its type, and the offset of its first byte
pub record Var : Type 0 where
  pub name : List ℕ
  pub ids : List ℕ
  pub kind : ℕ
  pub begin : ℕ

-- the size of the file, and what the fields say: the lengths of the dimensions, 0 for the record dimension, and the variables;
-- a field `numrecs` with all bits set gives no number of records
pub record Head : Type 0 where
  pub bytes : ℕ
  pub version : ℕ
  pub numrecs : ℕ
  pub dims : List ℕ
  pub vars : List Var

-- what the code holds as such a variable
abbrev pub var : Variable → Var
var v = record { name = v.name.items; ids = v.ids.items; kind = v.kind; begin = v.begin }

-- the variables that the code holds in a vector
abbrev pub vars_in : Vec Variable → List Var
vars_in vs = map var vs.items
