-- Reserved words and signs: how each is spelled.
use Rattle.std.specs.Prelude.{ℕ, Bool, true, false, List, [], ◌∷◌, ◌==◌, ◌||◌}
use Rattle.aql_syntax.specs.declared.sign.Sign.{Sign}
use Rattle.aql_syntax.specs.declared.sign.Sign.TheVariants as signs

-- the bytes of each, in ASCII
abbrev pub spelling : Sign → List ℕ
spelling signs.Val = 118 ∷ 97 ∷ 108 ∷ []
spelling signs.Macro = 109 ∷ 97 ∷ 99 ∷ 114 ∷ 111 ∷ []
spelling signs.Readval = 114 ∷ 101 ∷ 97 ∷ 100 ∷ 118 ∷ 97 ∷ 108 ∷ []
spelling signs.Using = 117 ∷ 115 ∷ 105 ∷ 110 ∷ 103 ∷ []
spelling signs.At = 97 ∷ 116 ∷ []
spelling signs.Fn = 102 ∷ 110 ∷ []
spelling signs.Let = 108 ∷ 101 ∷ 116 ∷ []
spelling signs.In = 105 ∷ 110 ∷ []
spelling signs.End = 101 ∷ 110 ∷ 100 ∷ []
spelling signs.If = 105 ∷ 102 ∷ []
spelling signs.Then = 116 ∷ 104 ∷ 101 ∷ 110 ∷ []
spelling signs.Else = 101 ∷ 108 ∷ 115 ∷ 101 ∷ []
spelling signs.True = 116 ∷ 114 ∷ 117 ∷ 101 ∷ []
spelling signs.False = 102 ∷ 97 ∷ 108 ∷ 115 ∷ 101 ∷ []
spelling signs.And = 97 ∷ 110 ∷ 100 ∷ []
spelling signs.Or = 111 ∷ 114 ∷ []
spelling signs.Not = 110 ∷ 111 ∷ 116 ∷ []
spelling signs.Union = 117 ∷ 110 ∷ 105 ∷ 111 ∷ 110 ∷ []
spelling signs.Gen = 103 ∷ 101 ∷ 110 ∷ []
spelling signs.Get = 103 ∷ 101 ∷ 116 ∷ []
spelling signs.Len = 108 ∷ 101 ∷ 110 ∷ []
spelling signs.Summap = 115 ∷ 117 ∷ 109 ∷ 109 ∷ 97 ∷ 112 ∷ []
spelling signs.Default = 100 ∷ 101 ∷ 102 ∷ 97 ∷ 117 ∷ 108 ∷ 116 ∷ []
spelling signs.Dim1 = 100 ∷ 105 ∷ 109 ∷ 95 ∷ 49 ∷ []
spelling signs.Dim2 = 100 ∷ 105 ∷ 109 ∷ 95 ∷ 50 ∷ []
spelling signs.Dim3 = 100 ∷ 105 ∷ 109 ∷ 95 ∷ 51 ∷ []
spelling signs.Dim4 = 100 ∷ 105 ∷ 109 ∷ 95 ∷ 52 ∷ []
spelling signs.Dim5 = 100 ∷ 105 ∷ 109 ∷ 95 ∷ 53 ∷ []
spelling signs.Dim6 = 100 ∷ 105 ∷ 109 ∷ 95 ∷ 54 ∷ []
spelling signs.Dim7 = 100 ∷ 105 ∷ 109 ∷ 95 ∷ 55 ∷ []
spelling signs.Dim8 = 100 ∷ 105 ∷ 109 ∷ 95 ∷ 56 ∷ []
spelling signs.Index1 = 105 ∷ 110 ∷ 100 ∷ 101 ∷ 120 ∷ 95 ∷ 49 ∷ []
spelling signs.Index2 = 105 ∷ 110 ∷ 100 ∷ 101 ∷ 120 ∷ 95 ∷ 50 ∷ []
spelling signs.Index3 = 105 ∷ 110 ∷ 100 ∷ 101 ∷ 120 ∷ 95 ∷ 51 ∷ []
spelling signs.Index4 = 105 ∷ 110 ∷ 100 ∷ 101 ∷ 120 ∷ 95 ∷ 52 ∷ []
spelling signs.Index5 = 105 ∷ 110 ∷ 100 ∷ 101 ∷ 120 ∷ 95 ∷ 53 ∷ []
spelling signs.Index6 = 105 ∷ 110 ∷ 100 ∷ 101 ∷ 120 ∷ 95 ∷ 54 ∷ []
spelling signs.Index7 = 105 ∷ 110 ∷ 100 ∷ 101 ∷ 120 ∷ 95 ∷ 55 ∷ []
spelling signs.Index8 = 105 ∷ 110 ∷ 100 ∷ 101 ∷ 120 ∷ 95 ∷ 56 ∷ []
spelling signs.Open = 40 ∷ []
spelling signs.Close = 41 ∷ []
spelling signs.OpenBrace = 123 ∷ []
spelling signs.CloseBrace = 125 ∷ []
spelling signs.OpenBracket = 91 ∷ []
spelling signs.CloseBracket = 93 ∷ []
spelling signs.Comma = 44 ∷ []
spelling signs.Semicolon = 59 ∷ []
spelling signs.Colon = 58 ∷ []
spelling signs.Bar = 124 ∷ []
spelling signs.Bang = 33 ∷ []
spelling signs.Backslash = 92 ∷ []
spelling signs.Underscore = 95 ∷ []
spelling signs.Equal = 61 ∷ []
spelling signs.DoubleEqual = 61 ∷ 61 ∷ []
spelling signs.FatArrow = 61 ∷ 62 ∷ []
spelling signs.Arrow = 60 ∷ 45 ∷ []
spelling signs.Less = 60 ∷ []
spelling signs.LessEqual = 60 ∷ 61 ∷ []
spelling signs.Greater = 62 ∷ []
spelling signs.GreaterEqual = 62 ∷ 61 ∷ []
spelling signs.Unequal = 60 ∷ 62 ∷ []
spelling signs.Plus = 43 ∷ []
spelling signs.Minus = 45 ∷ []
spelling signs.Star = 42 ∷ []
spelling signs.Slash = 47 ∷ []
spelling signs.Percent = 37 ∷ []

-- whether it is a reserved word
abbrev pub is_word : Sign → Bool
is_word signs.Val = true
is_word signs.Macro = true
is_word signs.Readval = true
is_word signs.Using = true
is_word signs.At = true
is_word signs.Fn = true
is_word signs.Let = true
is_word signs.In = true
is_word signs.End = true
is_word signs.If = true
is_word signs.Then = true
is_word signs.Else = true
is_word signs.True = true
is_word signs.False = true
is_word signs.And = true
is_word signs.Or = true
is_word signs.Not = true
is_word signs.Union = true
is_word signs.Gen = true
is_word signs.Get = true
is_word signs.Len = true
is_word signs.Summap = true
is_word signs.Default = true
is_word signs.Dim1 = true
is_word signs.Dim2 = true
is_word signs.Dim3 = true
is_word signs.Dim4 = true
is_word signs.Dim5 = true
is_word signs.Dim6 = true
is_word signs.Dim7 = true
is_word signs.Dim8 = true
is_word signs.Index1 = true
is_word signs.Index2 = true
is_word signs.Index3 = true
is_word signs.Index4 = true
is_word signs.Index5 = true
is_word signs.Index6 = true
is_word signs.Index7 = true
is_word signs.Index8 = true
is_word signs.Open = false
is_word signs.Close = false
is_word signs.OpenBrace = false
is_word signs.CloseBrace = false
is_word signs.OpenBracket = false
is_word signs.CloseBracket = false
is_word signs.Comma = false
is_word signs.Semicolon = false
is_word signs.Colon = false
is_word signs.Bar = false
is_word signs.Bang = false
is_word signs.Backslash = false
is_word signs.Underscore = false
is_word signs.Equal = false
is_word signs.DoubleEqual = false
is_word signs.FatArrow = false
is_word signs.Arrow = false
is_word signs.Less = false
is_word signs.LessEqual = false
is_word signs.Greater = false
is_word signs.GreaterEqual = false
is_word signs.Unequal = false
is_word signs.Plus = false
is_word signs.Minus = false
is_word signs.Star = false
is_word signs.Slash = false
is_word signs.Percent = false

-- which byte behind a sign makes a longer sign of it, or the beginning of a comment
abbrev pub joins : Sign → ℕ → Bool
joins signs.Open b = b == 42
joins signs.Equal b = b == 61 || b == 62
joins signs.Less b = b == 45 || b == 61 || b == 62
joins signs.Greater b = b == 61
joins _ b = false
