-- What the lexer does, as functions on lists of bytes. No clause of `tokens` cites it.
use Rattle.std.specs.Prelude.{ℕ, ◌-◌, ◌^◌, List, [], ◌∷◌, Bool, false, ◌||◌, ◌&&◌, ◌==◌, Option, Some, None, if◌then◌else◌, nat_lt, take, length}
use Rattle.std.specs.Str.{bytes_eq}
use Rattle.std.specs.Option.{option_map}
use Rattle.aql_value.specs.Partial.{◌>>=◌, or_else}
use Rattle.aql_syntax.specs.declared.sign.Sign.{Sign}
use Rattle.aql_syntax.specs.declared.sign.Sign.TheVariants as signs
use Rattle.aql_syntax.specs.declared.token.TokenKind.TheVariants as kinds
use Rattle.aql_syntax.specs.Signs.{spelling}
use Rattle.aql_syntax.specs.Lexis.{behind, is_letter, is_digit, is_name_byte, is_plain, is_hex, is_space}
use Rattle.aql_lex.specs.declared.signs.TheConstants.{WORDS, SIGNS}
use Rattle.aql_lex.specs.declared.lexer.Item.{Item}
use Rattle.aql_lex.specs.declared.lexer.Item.TheVariants as items
use Rattle.aql_lex.specs.Texts.{digits_value}

-- what follows the bytes at the front that have the property
abbrev pub munch_rest : (ℕ → Bool) → List ℕ → List ℕ
munch_rest p [] = []
munch_rest p (b ∷ s) = if p b then munch_rest p s else b ∷ s

-- the rest of a string: what may come next
pub data StringState : Type 0 where
  inside : StringState
  escaped : StringState
  hex : StringState
  last_hex : StringState

-- what follows a string, from a place in it on
abbrev pub string_rest : StringState → List ℕ → Option (List ℕ)
string_rest _ [] = None
string_rest inside (b ∷ s) =
    if b == 34 then Some s else if b == 92 then string_rest escaped s else if is_plain b then string_rest inside s else None
string_rest escaped (b ∷ s) =
    if b == 34 || b == 92 then string_rest inside s else if b == 120 then string_rest hex s else None
string_rest hex (b ∷ s) = if is_hex b then string_rest last_hex s else None
string_rest last_hex (b ∷ s) = if is_hex b then string_rest inside s else None

-- what follows a comment, from a place in it on: whether a star stood before
abbrev pub comment_rest : Bool → List ℕ → Option (List ℕ)
comment_rest star [] = None
comment_rest star (b ∷ s) = if star && b == 41 then Some s else comment_rest (b == 42) s

-- the first of these that the bytes spell
abbrev pub first_spelled : List Sign → List ℕ → Option Sign
first_spelled [] t = None
first_spelled (g ∷ gs) t = if bytes_eq t (spelling g) then Some g else first_spelled gs t

-- the first of these that stands at the front, and what follows it
abbrev pub sign_from : List Sign → List ℕ → Option (Sign × List ℕ)
sign_from [] s = None
sign_from (g ∷ gs) s = or_else (option_map (λ r. (g, r)) (behind (spelling g) s)) (sign_from gs s)

-- what is found at the front, and what follows it
abbrev pub Found : Type 0
Found = Option (Item × List ℕ)

-- a number below 2^128, and what follows it
abbrev pub number : ℕ → List ℕ → Found
number n s = if nat_lt (digits_value n s) (2 ^ 128) then Some (items.Said kinds.Number, munch_rest is_digit s) else None

-- a reserved word, or a name
abbrev pub word_item : Option Sign → Item
word_item (Some w) = items.Mark w
word_item None = items.Said kinds.Name

-- a name or a reserved word, before the rest r
abbrev pub word : List ℕ → List ℕ → Found
word s r = Some (word_item (first_spelled WORDS (take (length s - length r) s)), r)

-- what stands behind an opening parenthesis: a comment, or the sign
abbrev pub paren : List ℕ → Found
paren [] = Some (items.Mark signs.Open, [])
paren (b ∷ s) = if b == 42 then (comment_rest false s >>= λ r. Some (items.Blank, r)) else Some (items.Mark signs.Open, b ∷ s)

-- the longest sign at the front
abbrev pub other_sign : List ℕ → Found
other_sign s = sign_from SIGNS s >>= λ x. Some (items.Mark x.0, x.1)

-- by the first byte
unfoldable pub found_at : List ℕ → Found
found_at [] = None
found_at (b ∷ s) =
    if is_letter b then word (b ∷ s) (munch_rest is_name_byte s)
    else if is_digit b then number (b - 48) s
    else if is_space b then Some (items.Blank, s)
    else if b == 34 then (string_rest inside s >>= λ r. Some (items.Said kinds.Text, r))
    else if b == 40 then paren s
    else other_sign (b ∷ s)
