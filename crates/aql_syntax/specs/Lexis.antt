-- The lexis: which blanks and tokens a script is made of. The longest token counts.
use Rattle.std.specs.Prelude.{ℕ, ◌≡◌, ◌≢◌, ◌+◌, ◌-◌, ◌*◌, ◌^◌, ◌<◌, List, [], ◌∷◌, ◌++◌, Bool, true, false, ◌&&◌, ◌||◌, ◌==◌, nat_lt, length, Option, Some, None, if◌then◌else◌}
use Rattle.aql_syntax.specs.declared.sign.Sign.{Sign}
use Rattle.aql_syntax.specs.declared.token.Token.{Token}
use Rattle.aql_syntax.specs.declared.token.TokenKind.{TokenKind}
use Rattle.aql_syntax.specs.declared.token.TokenKind.TheVariants as kinds
use Rattle.aql_syntax.specs.Tree.{Name}
use Rattle.aql_syntax.specs.Signs.{spelling, is_word, joins}

-- what a token says: a name, a number, a string's bytes, a reserved word or sign
pub data Lexeme : Type 0 where
  named : Name → Lexeme
  numeral : ℕ → Lexeme
  quoted : List ℕ → Lexeme
  mark : Sign → Lexeme

-- the kind of token that a lexeme is
abbrev pub kind_of : Lexeme → TokenKind
kind_of (named x) = kinds.Name
kind_of (numeral n) = kinds.Number
kind_of (quoted s) = kinds.Text
kind_of (mark s) = if is_word s then kinds.Reserved else kinds.Sign

-- what follows p, where it stands at the front
abbrev pub behind : List ℕ → List ℕ → Option (List ℕ)
behind [] s = Some s
behind (a ∷ p) [] = None
behind (a ∷ p) (b ∷ s) = if b == a then behind p s else None

-- a byte from a to b
abbrev pub is_between : ℕ → ℕ → ℕ → Bool
is_between a b n = nat_lt n (b + 1) && nat_lt a (n + 1)

-- a letter of ASCII
abbrev pub is_letter : ℕ → Bool
is_letter b = is_between 65 90 b || is_between 97 122 b

-- a decimal digit
abbrev pub is_digit : ℕ → Bool
is_digit b = is_between 48 57 b

-- what may follow in a name: letters, digits, `_` and `'`
abbrev pub is_name_byte : ℕ → Bool
is_name_byte b = is_letter b || is_digit b || b == 95 || b == 39

-- a hexadecimal digit
abbrev pub is_hex : ℕ → Bool
is_hex b = is_digit b || is_between 65 70 b || is_between 97 102 b

-- the value of a hexadecimal digit of either case
abbrev pub hex_value : ℕ → ℕ
hex_value b = if is_digit b then b - 48 else if is_between 65 70 b then b - 55 else b - 87

-- a byte that stands for itself in a string: from 0x20 to 0x7e other than the quote and the backslash, or from 0x80 on
abbrev pub is_plain : ℕ → Bool
is_plain b = if b == 34 || b == 92 then false else is_between 32 126 b || nat_lt 127 b

-- space, tab, carriage return, line feed
abbrev pub is_space : ℕ → Bool
is_space b = b == 32 || b == 9 || b == 13 || b == 10

-- the next byte, if any, isn't of that kind
abbrev pub Ends : (ℕ → Bool) → List ℕ → Type 0
Ends p [] = Unit {0}
Ends p (b ∷ s) = p b ≡ false

-- MaximalMunch p t s r: s is the bytes t, all of that kind and as many as there are, and then r
pub data MaximalMunch (p : ℕ → Bool) : List ℕ → List ℕ → List ℕ → Type 0 where
  munch_end : {r : List ℕ} → Ends p r → MaximalMunch p [] r r
  munch_more : {b : ℕ} {t s r : List ℕ} → p b ≡ true → MaximalMunch p t s r → MaximalMunch p (b ∷ t) (b ∷ s) r

-- Digits n s r v: s is digits, as many as there are, and then r; with n before them they make the number v
pub data Digits : ℕ → List ℕ → List ℕ → ℕ → Type 0 where
  digits_end : {n : ℕ} {r : List ℕ} → Ends is_digit r → Digits n r r n
  digits_more : {n v b : ℕ} {s r : List ℕ} → is_digit b ≡ true → Digits (10 * n + (b - 48)) s r v → Digits n (b ∷ s) r v

-- InString t s r: s is the rest of a string that stands for the bytes t, its closing quote, and then r
pub data InString : List ℕ → List ℕ → List ℕ → Type 0 where
  string_end : {r : List ℕ} → InString [] (34 ∷ r) r
  string_plain : {b : ℕ} {t s r : List ℕ} → is_plain b ≡ true → InString t s r → InString (b ∷ t) (b ∷ s) r
  string_escape : {b : ℕ} {t s r : List ℕ} → (b == 34 || b == 92) ≡ true → InString t s r → InString (b ∷ t) (92 ∷ b ∷ s) r
  string_hex : {a b : ℕ} {t s r : List ℕ} → is_hex a ≡ true → is_hex b ≡ true → InString t s r →
      InString ((16 * hex_value a + hex_value b) ∷ t) (92 ∷ 120 ∷ a ∷ b ∷ s) r

-- whether a star and a parenthesis stand here
abbrev pub closes_comment : List ℕ → Bool
closes_comment (a ∷ b ∷ s) = a == 42 && b == 41
closes_comment _ = false

-- the rest of a comment, through the first star and parenthesis
pub data InComment : List ℕ → List ℕ → Type 0 where
  comment_end : {r : List ℕ} → InComment (42 ∷ 41 ∷ r) r
  comment_more : {b : ℕ} {s r : List ℕ} → closes_comment (b ∷ s) ≡ false → InComment s r → InComment (b ∷ s) r

-- Blank s r: s begins with a blank, and r follows
pub data Blank : List ℕ → List ℕ → Type 0 where
  blank_space : {b : ℕ} {r : List ℕ} → is_space b ≡ true → Blank (b ∷ r) r
  blank_comment : {s r : List ℕ} → InComment s r → Blank (40 ∷ 42 ∷ s) r

-- no reserved word is spelled so
abbrev pub IsNoWord : List ℕ → Type 0
IsNoWord t = (w : Sign) → is_word w ≡ true → spelling w ≡ t → ⊥

-- Begins l s r: s begins with that token, the longest that stands there, and r follows
pub data Begins : Lexeme → List ℕ → List ℕ → Type 0 where
  begins_name : {b : ℕ} {t s r : List ℕ} → is_letter b ≡ true → MaximalMunch is_name_byte t s r → IsNoWord (b ∷ t) → Begins (named (b ∷ t)) (b ∷ s) r
  begins_word : {w : Sign} {b : ℕ} {t s r : List ℕ} → is_letter b ≡ true → MaximalMunch is_name_byte t s r → is_word w ≡ true → spelling w ≡ b ∷ t →
      Begins (mark w) (b ∷ s) r
  begins_number : {b v : ℕ} {s r : List ℕ} → is_digit b ≡ true → Digits (b - 48) s r v → v < 2 ^ 128 → Begins (numeral v) (b ∷ s) r
  begins_text : {t s r : List ℕ} → InString t s r → Begins (quoted t) (34 ∷ s) r
  begins_sign : {g : Sign} {s r : List ℕ} → is_word g ≡ false → s ≡ spelling g ++ r → Ends (joins g) r → Begins (mark g) s r

-- the token that stands between the rests s and r of a script
abbrev pub token_between : List ℕ → Lexeme → List ℕ → List ℕ → Token
token_between script l s r = record { kind = kind_of l; from = length script - length s; to = length script - length r }

-- Covers script tokens lexemes s: the bytes before s are blanks and these tokens in order, which say these lexemes
pub data Covers (script : List ℕ) : List Token → List Lexeme → List ℕ → Type 0 where
  covers_none : Covers script [] [] script
  covers_blank : {ts : List Token} {ls : List Lexeme} {s r : List ℕ} → Covers script ts ls s → Blank s r → Covers script ts ls r
  covers_token : {ts : List Token} {ls : List Lexeme} {l : Lexeme} {s r : List ℕ} → Covers script ts ls s → Begins l s r →
      Covers script (ts ++ token_between script l s r ∷ []) (ls ++ l ∷ []) r

-- the tokens of a script and what they say
abbrev pub AreTokens : List ℕ → List Token → List Lexeme → Type 0
AreTokens script ts ls = Covers script ts ls []

-- blanks and tokens cover the bytes before byte `at`, and neither begins there
pub record TextFaultAt (at : ℕ) (script : List ℕ) : Type 0 where
  pub before : List Token
  pub said : List Lexeme
  pub rest : List ℕ
  pub covers : Covers script before said rest
  pub place : at + length rest ≡ length script
  pub some : rest ≢ []
  pub no_blank : (r : List ℕ) → Blank rest r → ⊥
  pub no_token : (l : Lexeme) (r : List ℕ) → Begins l rest r → ⊥
