use Rattle.std.proofs.Common.{◌≡◌, Bool, true, false, refl, ap, ◌∙◌, rules}
use denote.Enum.Bare.{sameb, true_same, false_same}
use Rattle.aql_syntax.specs.contracts.sign.Sign.{the_type}
use Rattle.aql_syntax.specs.declared.sign.Sign.{Sign}
use Rattle.aql_parse_spec.specs.SignNumbers.{same_sign}
use Rattle.aql_parse_spec.specs.Laws.SignNumbers.{same_sign-eq, same_sign-self}
use Rattle.aql_parse.proofs.words.is_sign.Goals as goal

-- the derived test is the test of the numbers
is_same : (a b : Sign) (t : Bool) → same_sign a b ≡ t → sameb the_type a b ≡ t
is_same a b true e = true_same the_type a b (same_sign-eq a b e)
is_same a b false e = false_same the_type (search rules) a b (λ same.
    let bad : same_sign a a ≡ false = ap (same_sign a) same ∙ e in
    let good : same_sign a a ≡ true = same_sign-self a in cc)

pub returns : goal.returns
returns c = c.eq.ensures ∙ is_same c.args.a c.args.b (same_sign c.args.a c.args.b) refl
