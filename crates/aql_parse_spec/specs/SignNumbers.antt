-- Reserved words and signs, told apart by numbers.
use Rattle.std.specs.Prelude.{ℕ, Bool, ◌==◌}
use Rattle.aql_syntax.specs.declared.sign.Sign.{Sign}
use Rattle.aql_syntax.specs.declared.sign.Sign.TheVariants as signs

-- each one's place in the list of all
abbrev pub sign_number : Sign → ℕ
sign_number signs.Val = 0
sign_number signs.Macro = 1
sign_number signs.Readval = 2
sign_number signs.Using = 3
sign_number signs.At = 4
sign_number signs.Fn = 5
sign_number signs.Let = 6
sign_number signs.In = 7
sign_number signs.End = 8
sign_number signs.If = 9
sign_number signs.Then = 10
sign_number signs.Else = 11
sign_number signs.True = 12
sign_number signs.False = 13
sign_number signs.And = 14
sign_number signs.Or = 15
sign_number signs.Not = 16
sign_number signs.Union = 17
sign_number signs.Gen = 18
sign_number signs.Get = 19
sign_number signs.Len = 20
sign_number signs.Summap = 21
sign_number signs.Default = 22
sign_number signs.Dim1 = 23
sign_number signs.Dim2 = 24
sign_number signs.Dim3 = 25
sign_number signs.Dim4 = 26
sign_number signs.Dim5 = 27
sign_number signs.Dim6 = 28
sign_number signs.Dim7 = 29
sign_number signs.Dim8 = 30
sign_number signs.Index1 = 31
sign_number signs.Index2 = 32
sign_number signs.Index3 = 33
sign_number signs.Index4 = 34
sign_number signs.Index5 = 35
sign_number signs.Index6 = 36
sign_number signs.Index7 = 37
sign_number signs.Index8 = 38
sign_number signs.Open = 39
sign_number signs.Close = 40
sign_number signs.OpenBrace = 41
sign_number signs.CloseBrace = 42
sign_number signs.OpenBracket = 43
sign_number signs.CloseBracket = 44
sign_number signs.Comma = 45
sign_number signs.Semicolon = 46
sign_number signs.Colon = 47
sign_number signs.Bar = 48
sign_number signs.Bang = 49
sign_number signs.Backslash = 50
sign_number signs.Underscore = 51
sign_number signs.Equal = 52
sign_number signs.DoubleEqual = 53
sign_number signs.FatArrow = 54
sign_number signs.Arrow = 55
sign_number signs.Less = 56
sign_number signs.LessEqual = 57
sign_number signs.Greater = 58
sign_number signs.GreaterEqual = 59
sign_number signs.Unequal = 60
sign_number signs.Plus = 61
sign_number signs.Minus = 62
sign_number signs.Star = 63
sign_number signs.Slash = 64
sign_number signs.Percent = 65

-- whether two signs are one, by their numbers
abbrev pub same_sign : Sign → Sign → Bool
same_sign a b = sign_number a == sign_number b
