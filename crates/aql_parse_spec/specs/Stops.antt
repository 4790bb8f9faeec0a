-- Where a reading stops, how one begins, and what the functions do there.
use Rattle.std.specs.Prelude.{ℕ, ◌<◌, List, [], ◌∷◌}
use Rattle.aql_syntax.specs.declared.sign.Sign.TheVariants as signs
use Rattle.aql_syntax.specs.Lexis.{Lexeme, mark}

-- The level that a lexeme goes on: 0 a subscript or an application, 1 to 7 that of an operator, 8 `default`, 9 a list.
abbrev pub goes_on : Lexeme → ℕ
goes_on (mark signs.OpenBracket) = 0
goes_on (mark signs.Bang) = 0
goes_on (mark signs.Star) = 1
goes_on (mark signs.Slash) = 1
goes_on (mark signs.Percent) = 1
goes_on (mark signs.Plus) = 2
goes_on (mark signs.Minus) = 2
goes_on (mark signs.Union) = 3
goes_on (mark signs.Equal) = 4
goes_on (mark signs.Unequal) = 4
goes_on (mark signs.Less) = 4
goes_on (mark signs.LessEqual) = 4
goes_on (mark signs.Greater) = 4
goes_on (mark signs.GreaterEqual) = 4
goes_on (mark signs.And) = 6
goes_on (mark signs.Or) = 7
goes_on (mark signs.Default) = 8
goes_on (mark signs.Comma) = 9
goes_on _ = 10

-- what comes next goes on no level up to h
abbrev pub Stops : ℕ → List Lexeme → Type 0
Stops h [] = Unit {0}
Stops h (l ∷ r) = h < goes_on l

-- no other binding of a let comes next
abbrev pub NoVal : List Lexeme → Type 0
NoVal (mark signs.Val ∷ s) = ⊥
NoVal _ = Unit {0}
