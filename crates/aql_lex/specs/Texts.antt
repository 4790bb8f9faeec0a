-- What a token's own bytes say.
use Rattle.std.specs.Prelude.{ℕ, ◌≡◌, ◌+◌, ◌-◌, ◌*◌, ◌%◌, ◌^◌, ◌≤◌, ◌<◌, ◌==◌, List, [], ◌∷◌, take, drop, if◌then◌else◌}
use Rattle.aql_syntax.specs.declared.token.Token.{Token}
use Rattle.aql_syntax.specs.Signs.{spelling}
use Rattle.aql_syntax.specs.Lexis.{Lexeme, named, numeral, quoted, mark, kind_of, is_digit, hex_value, InString}

-- the number that digits make behind n
abbrev pub digits_value : ℕ → List ℕ → ℕ
digits_value n [] = n
digits_value n (b ∷ s) = if is_digit b then digits_value (10 * n + (b - 48)) s else n

-- the bytes of a token say this lexeme: a name's are the name, a number's its digits, a string's stand between quotes
abbrev pub Says : List ℕ → Lexeme → Type 0
Says t (named x) = t ≡ x
Says t (numeral n) = (digits_value 0 t ≡ n) × (n < 2 ^ 128)
Says [] (quoted x) = ⊥
Says (b ∷ t) (quoted x) = (b ≡ 34) × InString x t []
Says t (mark g) = spelling g ≡ t

-- the bytes of the script where a token stands
abbrev pub text_of : List ℕ → Token → List ℕ
text_of script t = take (t.to - t.from) (drop t.from script)

-- spans ascend from n to m, and none is empty
abbrev pub SpansAscend : ℕ → List Token → ℕ → Type 0
SpansAscend n [] m = n ≤ m
SpansAscend n (t ∷ ts) m = (n ≤ t.from) × (t.from < t.to) × SpansAscend t.to ts m

-- each token has the kind of its lexeme, and its bytes say it
abbrev pub EachSays : List ℕ → List Token → List Lexeme → Type 0
EachSays script [] [] = Unit {0}
EachSays script [] (l ∷ ls) = ⊥
EachSays script (t ∷ ts) [] = ⊥
EachSays script (t ∷ ts) (l ∷ ls) = (t.kind ≡ kind_of l) × Says (text_of script t) l × EachSays script ts ls

-- what may come next in a string; after one hexadecimal digit, with its value
pub data Spot : Type 0 where
  within : Spot
  escape : Spot
  high : Spot
  low : ℕ → Spot

-- the bytes that a string stands for, up to its closing quote
abbrev pub string_bytes : Spot → List ℕ → List ℕ
string_bytes _ [] = []
string_bytes within (b ∷ s) = if b == 34 then [] else if b == 92 then string_bytes escape s else b ∷ string_bytes within s
string_bytes escape (b ∷ s) = if b == 120 then string_bytes high s else b ∷ string_bytes within s
string_bytes high (b ∷ s) = string_bytes (low (hex_value b)) s
string_bytes (low h) (b ∷ s) = ((16 * h + hex_value b) % 256) ∷ string_bytes within s
