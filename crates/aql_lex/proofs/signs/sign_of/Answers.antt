use Rattle.std.proofs.Common.{◌≡◌, ◌≢◌, List, ℕ, Option, Some, None, MatchOption}
use Rattle.aql_syntax.specs.declared.sign.Sign.{Sign}
use Rattle.aql_syntax.specs.Signs.{spelling}
use Rattle.aql_lex.specs.declared.signs.TheConstants.{ALL}
use Rattle.aql_lex.specs.Lexing.{first_spelled}
use Rattle.aql_lex.proofs.Spellings.{spelled_so, none_spelled}
use Rattle.aql_lex.proofs.signs.sign_of.Goals as goal

spelled : (t : List ℕ) (o : Option Sign) → MatchOption o (first_spelled ALL t ≡ None) (λ g. first_spelled ALL t ≡ Some g) →
    MatchOption o ((g : Sign) → spelling g ≢ t) (λ g. spelling g ≡ t)
spelled t None e = none_spelled t e
spelled t (Some g) e = spelled_so ALL t g e

pub returns : goal.returns
returns c = spelled c.args.text.now c.find_spelling.result c.find_spelling.ensures
