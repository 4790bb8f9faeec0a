-- The forms that evaluate all their parts and bind nothing: their values and their turns, by the parts' values.
use Rattle.std.specs.Prelude.{ℕ, ◌+◌, Bool, List, [], ◌∷◌, length, Option, Some, None}
use Rattle.aql_value.specs.Datum as datum
use Rattle.aql_value.specs.Datum.{Datum, natural, truth, nil}
use Rattle.aql_value.specs.Partial.{◌>>=◌, each, if_some}
use Rattle.aql_value.specs.Operations.{as_natural, as_set, as_array, tuple_of, part_of, set_of, union_of, get_of, gen_of, arith_of, compare_of, literal_of, dim_of, cell_of, index_of}
use Rattle.aql_value.specs.declared.ops.ArithOp.{ArithOp}
use Rattle.aql_value.specs.declared.ops.CompareOp.{CompareOp}

-- `nat`, `bool`, `text` and `empty` have no parts; `tuple`, `sub` and `literal` have several
pub data Strict : Type 0 where
  nat : ℕ → Strict
  bool : Bool → Strict
  text : List ℕ → Strict
  bottom : Strict
  tuple : Strict
  proj : (at of : ℕ) → Strict
  arith : ArithOp → Strict
  compare : CompareOp → Strict
  empty : Strict
  single : Strict
  union : Strict
  gen : Strict
  get : Strict
  sub : Strict
  dim : (rank : ℕ) → Strict
  index : (rank : ℕ) → Strict
  literal : (rank : ℕ) → Strict

-- by the number of parts; undefined at another number
abbrev pub nullary : Option Datum → List Datum → Option Datum
nullary o [] = o
nullary o (a ∷ vs) = None

-- an operation of one operand
abbrev pub unary : (Datum → Option Datum) → List Datum → Option Datum
unary f [] = None
unary f (a ∷ []) = f a
unary f (a ∷ b ∷ vs) = None

-- an operation of two operands
abbrev pub binary : (Datum → Datum → Option Datum) → List Datum → Option Datum
binary f [] = None
binary f (a ∷ []) = None
binary f (a ∷ b ∷ []) = f a b
binary f (a ∷ b ∷ c ∷ vs) = None

-- the array, and then the numbers of the index
abbrev pub sub_value : List Datum → Option Datum
sub_value [] = None
sub_value (a ∷ at) = each as_natural at >>= cell_of a

-- the value of a form whose parts have these values
abbrev pub strict_value : Strict → List Datum → Option Datum
strict_value (Strict.nat n) vs = nullary (Some (natural n)) vs
strict_value (Strict.bool b) vs = nullary (Some (truth b)) vs
strict_value (Strict.text s) vs = nullary (Some (datum.text s)) vs
strict_value Strict.bottom vs = None
strict_value Strict.tuple vs = tuple_of vs
strict_value (Strict.proj at of) vs = unary (part_of at of) vs
strict_value (Strict.arith op) vs = binary (arith_of op) vs
strict_value (Strict.compare op) vs = binary (compare_of op) vs
strict_value Strict.empty vs = nullary (Some (datum.set nil)) vs
strict_value Strict.single vs = unary (λ v. Some (set_of (v ∷ []))) vs
strict_value Strict.union vs = binary union_of vs
strict_value Strict.gen vs = unary gen_of vs
strict_value Strict.get vs = unary get_of vs
strict_value Strict.sub vs = sub_value vs
strict_value (Strict.dim rank) vs = unary (dim_of rank) vs
strict_value (Strict.index rank) vs = unary (index_of rank) vs
strict_value (Strict.literal rank) vs = literal_of rank vs

-- of `gen`: the number
abbrev pub gen_turns : List Datum → ℕ
gen_turns [] = 0
gen_turns (v ∷ []) = if_some (as_natural v) (λ n. n)
gen_turns (v ∷ w ∷ vs) = 0

-- of `index`: the members, and the cells of the result where there is one
abbrev pub index_turns : (rank : ℕ) → List Datum → ℕ
index_turns rank [] = 0
index_turns rank (v ∷ []) = if_some (as_set v) length + if_some (index_of rank v >>= as_array) (λ t. length t.cells)
index_turns rank (v ∷ w ∷ vs) = 0

-- the turns of a form beside those of its parts, by the parts' values where they have some
abbrev pub strict_turns : Strict → Option (List Datum) → ℕ
strict_turns Strict.gen o = if_some o gen_turns
strict_turns (Strict.index rank) o = if_some o (index_turns rank)
strict_turns _ o = 0
