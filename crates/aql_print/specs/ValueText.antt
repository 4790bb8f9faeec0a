-- The text of a value, in ASCII bytes.
use Rattle.std.specs.Prelude.{ℕ, ◌+◌, ◌/◌, ◌%◌, ◌&&◌, nat_eq, nat_lt, nat_le, List, [], ◌∷◌, ◌++◌, map, codes, decimal, if◌then◌else◌}
use Rattle.std.specs.List.{flat_map}
use Rattle.aql_value.specs.Datum as datum
use Rattle.aql_value.specs.Datum.{Datum, natural, truth, tuple, set, array, Data, nil, cons}
use Rattle.aql_print.specs.Joined.{join_texts}

-- a hexadecimal digit, in lower case
abbrev pub hex_digit : ℕ → ℕ
hex_digit d = if nat_lt d 10 then 48 + d else 87 + d

-- a byte of a string: `"` and `\` behind a `\`, the other bytes from 0x20 to 0x7e as they are, the rest as `\x` and two digits
abbrev pub byte_text : ℕ → List ℕ
byte_text b =
    if nat_eq b 34 then codes "\\\""
    else if nat_eq b 92 then codes "\\\\"
    else if nat_le 32 b && nat_lt b 127 then b ∷ []
    else codes "\\x" ++ hex_digit (b / 16) ∷ hex_digit (b % 16) ∷ []

-- the dimensions of an array
abbrev pub dims_text : List ℕ → List ℕ
dims_text ds = join_texts (codes ",") (map decimal ds)

abbrev mutual
  -- the text of a value
  pub text : Datum → List ℕ
  text (natural n) = decimal n
  text (truth b) = if b then codes "true" else codes "false"
  text (datum.text s) = codes "\"" ++ (flat_map byte_text s ++ codes "\"")
  text (tuple vs) = codes "(" ++ (join_texts (codes ", ") (texts vs) ++ codes ")")
  text (set vs) = codes "{" ++ (join_texts (codes ", ") (texts vs) ++ codes "}")
  text (array ds vs) = codes "[[" ++ (dims_text ds ++ (codes "; " ++ (join_texts (codes ", ") (texts vs) ++ codes "]]")))

  -- of each value
  pub texts : Data → List (List ℕ)
  texts nil = []
  texts (cons v vs) = text v ∷ texts vs
