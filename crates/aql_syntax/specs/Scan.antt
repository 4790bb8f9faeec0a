-- The depth of a scan over the tokens, which bounds how deep a reading of them goes.
use Rattle.std.specs.Prelude.{ℕ, ◌≡◌, ◌+◌, List, [], ◌∷◌, Bool, true, false, nat_lt, sum, Option, Some, None, if◌then◌else◌}
use Rattle.std.specs.List.{slice_get}
use Rattle.std.specs.Option.{option_map}
use Rattle.aql_syntax.specs.declared.sign.Sign.{Sign}
use Rattle.aql_syntax.specs.declared.sign.Sign.TheVariants as signs
use Rattle.aql_syntax.specs.declared.token.Token.{Token}
use Rattle.aql_syntax.specs.Lexis.{Lexeme, named, numeral, quoted, mark}

-- `(`, `{`, `[`, `let`
abbrev pub opens : Sign → Bool
opens signs.Open = true
opens signs.OpenBrace = true
opens signs.OpenBracket = true
opens signs.Let = true
opens _ = false

-- `)`, `}`, `]`, `end`
abbrev pub closes : Sign → Bool
closes signs.Close = true
closes signs.CloseBrace = true
closes signs.CloseBracket = true
closes signs.End = true
closes _ = false

-- `if`, `not`, `val`, `fn`, `!`, `and`, `or`, `union`, `default`, the arithmetic operators and the six comparisons
abbrev pub raises : Sign → Bool
raises signs.If = true
raises signs.Not = true
raises signs.Val = true
raises signs.Fn = true
raises signs.Bang = true
raises signs.And = true
raises signs.Or = true
raises signs.Union = true
raises signs.Default = true
raises signs.Plus = true
raises signs.Minus = true
raises signs.Star = true
raises signs.Slash = true
raises signs.Percent = true
raises signs.Equal = true
raises signs.Unequal = true
raises signs.Less = true
raises signs.LessEqual = true
raises signs.Greater = true
raises signs.GreaterEqual = true
raises _ = false

-- `,`, `;`, `|`
abbrev pub resets : Sign → Bool
resets signs.Comma = true
resets signs.Semicolon = true
resets signs.Bar = true
resets _ = false

-- Stacks of counters, the top first.

-- 1 more on top, and then a new counter
abbrev pub push_counter : List ℕ → List ℕ
push_counter [] = 0 ∷ []
push_counter (c ∷ cs) = 0 ∷ (c + 1) ∷ cs

-- without the top, where more than one is there
abbrev pub pop_counter : List ℕ → List ℕ
pop_counter [] = []
pop_counter (c ∷ []) = c ∷ []
pop_counter (c ∷ d ∷ cs) = d ∷ cs

-- 1 more on top
abbrev pub increment : List ℕ → List ℕ
increment [] = []
increment (c ∷ cs) = (c + 1) ∷ cs

-- 0 on top
abbrev pub reset : List ℕ → List ℕ
reset [] = []
reset (c ∷ cs) = 0 ∷ cs

-- the counters behind a sign
abbrev pub scan_sign : Sign → List ℕ → List ℕ
scan_sign s counters =
    if opens s then push_counter counters
    else if closes s then pop_counter counters
    else if raises s then increment counters
    else if resets s then reset counters
    else counters

-- the counters after a token
abbrev pub scan_token : Lexeme → List ℕ → List ℕ
scan_token (named x) counters = counters
scan_token (numeral n) counters = counters
scan_token (quoted s) counters = counters
scan_token (mark s) counters = scan_sign s counters

-- the counters at first: one counter 0
abbrev pub no_counters : List ℕ
no_counters = 0 ∷ []

-- how many tokens stand before the first after which the sum of all counters passes 400
abbrev pub first_deep : List ℕ → List Lexeme → Option ℕ
first_deep counters [] = None
first_deep counters (l ∷ ls) =
    if nat_lt 400 (sum (scan_token l counters)) then Some 0 else option_map (λ n. n + 1) (first_deep (scan_token l counters) ls)

-- the scan first passes 400 at the token that begins at byte `at`
pub record DeepFaultAt (at : ℕ) (tokens : List Token) (lexemes : List Lexeme) : Type 0 where
  pub before : ℕ
  pub token : Token
  pub first : first_deep no_counters lexemes ≡ Some before
  pub there : slice_get tokens before ≡ Some token
  pub begins : token.from ≡ at
