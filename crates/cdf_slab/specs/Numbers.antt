-- The numbers of a variable, and the cells that they give.
use Rattle.std.specs.Prelude.{◌≡◌, ℕ, ◌-◌, ◌*◌, ◌^◌, Bool, true, false, ◌||◌, nat_eq, nat_lt, List, [], ◌∷◌, drop, Option, Some, None, if◌then◌else◌}
use Rattle.byteorder.specs.Endian.{big_number}
use Rattle.aql_value.specs.Datum.{Datum, natural, truth, tuple, data_of}
use Rattle.cdf_header.specs.Format.{type_size}

-- a number as a file tells it: whether it is below 0, and how far it is from 0
abbrev pub Number : Type 0
Number = Bool × ℕ

-- the types with a sign: byte, short, int, int64
abbrev pub has_sign : ℕ → Bool
has_sign kind = nat_eq kind 1 || nat_eq kind 3 || nat_eq kind 4 || nat_eq kind 10

-- the number that w bytes are as two's complement
abbrev pub twos : (w : ℕ) → ℕ → Number
twos w x = if nat_lt x (2 ^ (8 * w - 1)) then (false, x) else (true, 2 ^ (8 * w) - x)

-- the number that the bytes of a cell are, by the variable's type
abbrev pub number_of : (kind : ℕ) → ℕ → Number
number_of kind x = if has_sign kind then twos (type_size kind) x else (false, x)

-- the number that stands at an offset, the highest byte first
abbrev pub number_at : (bytes : List ℕ) (kind : ℕ) → ℕ → Number
number_at bytes kind p = number_of kind (big_number (type_size kind) (drop p bytes))

-- the cell of a number: for a signed reader whether it is below 0 and how far from 0, for another the natural, and none below 0
abbrev pub cell_of : (signed : Bool) → Number → Option Datum
cell_of signed n = if signed then Some (tuple (data_of (truth n.0 ∷ natural n.1 ∷ []))) else (if n.0 then None else Some (natural n.1))

-- the cell of some number
abbrev pub IsCell : (signed : Bool) → Datum → Type 0
IsCell signed v = (n : Number) × (cell_of signed n ≡ Some v)
