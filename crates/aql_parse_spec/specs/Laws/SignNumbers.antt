-- What follows from the definitions of `SignNumbers`.
use Rattle.std.specs.Prelude.{◌≡◌, true, List, [], ◌∷◌}
use Rattle.std.proofs.Common.{get_or, refl, sym, ap, ◌∙◌}
use Rattle.std.proofs.lemmas.Bool.{eqb-true, eq-eqb}
use Rattle.aql_syntax.specs.declared.sign.Sign.{Sign}
use Rattle.aql_syntax.specs.declared.sign.Sign.TheVariants as signs
use Rattle.aql_parse_spec.specs.SignNumbers.{sign_number, same_sign}

abbrev all_signs : List Sign
all_signs =
    signs.Val ∷ signs.Macro ∷ signs.Readval ∷ signs.Using ∷ signs.At ∷ signs.Fn ∷ signs.Let ∷ signs.In ∷ signs.End ∷ signs.If ∷
    signs.Then ∷ signs.Else ∷ signs.True ∷ signs.False ∷ signs.And ∷ signs.Or ∷ signs.Not ∷ signs.Union ∷ signs.Gen ∷ signs.Get ∷
    signs.Len ∷ signs.Summap ∷ signs.Default ∷ signs.Dim1 ∷ signs.Dim2 ∷ signs.Dim3 ∷ signs.Dim4 ∷ signs.Dim5 ∷ signs.Dim6 ∷
    signs.Dim7 ∷ signs.Dim8 ∷ signs.Index1 ∷ signs.Index2 ∷ signs.Index3 ∷ signs.Index4 ∷ signs.Index5 ∷ signs.Index6 ∷ signs.Index7 ∷
    signs.Index8 ∷ signs.Open ∷ signs.Close ∷ signs.OpenBrace ∷ signs.CloseBrace ∷ signs.OpenBracket ∷ signs.CloseBracket ∷
    signs.Comma ∷ signs.Semicolon ∷ signs.Colon ∷ signs.Bar ∷ signs.Bang ∷ signs.Backslash ∷ signs.Underscore ∷ signs.Equal ∷
    signs.DoubleEqual ∷ signs.FatArrow ∷ signs.Arrow ∷ signs.Less ∷ signs.LessEqual ∷ signs.Greater ∷ signs.GreaterEqual ∷
    signs.Unequal ∷ signs.Plus ∷ signs.Minus ∷ signs.Star ∷ signs.Slash ∷ signs.Percent ∷ []

at_number : (x : Sign) → get_or all_signs (sign_number x) signs.Val ≡ x
at_number signs.Val = refl
at_number _ = refl

-- one number, one sign
pub same_sign-eq : (x y : Sign) → same_sign x y ≡ true → x ≡ y
same_sign-eq x y e = sym (at_number x) ∙ ap (λ n. get_or all_signs n signs.Val) (eqb-true (sign_number x) (sign_number y) e) ∙ at_number y

pub same_sign-self : (x : Sign) → same_sign x x ≡ true
same_sign-self x = eq-eqb (sign_number x) (sign_number x) refl
