-- The scan as the code does it: over the tokens, with the counters below the top one in a list, the lowest first.
use Rattle.std.specs.Prelude.{ℕ, ◌≡◌, List, [], ◌∷◌, ◌++◌, nat_lt, sum, Option, Some, None, if◌then◌else◌}
use Rattle.aql_syntax.specs.declared.sign.Sign.{Sign}
use Rattle.aql_syntax.specs.declared.token.Token.{Token}
use Rattle.aql_syntax.specs.declared.token.TokenKind.{TokenKind}
use Rattle.aql_syntax.specs.declared.token.TokenKind.TheVariants as kinds
use Rattle.aql_syntax.specs.Scan.{scan_sign}
use Rattle.aql_lex.specs.declared.scan.Counters.{Counters}
use Rattle.aql_lex.specs.declared.signs.TheConstants.{ALL}
use Rattle.aql_lex.specs.Texts.{text_of}
use Rattle.aql_lex.specs.Lexing.{first_spelled}

-- from the last to the first
abbrev pub stack_of : List ℕ → List ℕ
stack_of [] = []
stack_of (c ∷ cs) = stack_of cs ++ c ∷ []

-- the counters of the code, the innermost first
abbrev pub counters_of : Counters → List ℕ
counters_of c = c.top ∷ stack_of c.below.items

-- the reserved word or sign that a token is
abbrev pub sign_said : TokenKind → List ℕ → Option Sign
sign_said kinds.Name t = None
sign_said kinds.Number t = None
sign_said kinds.Text t = None
sign_said kinds.Reserved t = first_spelled ALL t
sign_said kinds.Sign t = first_spelled ALL t

-- the counters behind a token, which is a sign or none
abbrev pub after_sign : Option Sign → List ℕ → List ℕ
after_sign None counters = counters
after_sign (Some g) counters = scan_sign g counters

-- where the first token begins after which the counters' sum passes 400
abbrev pub deep_from : List ℕ → List ℕ → List Token → Option ℕ
deep_from script counters [] = None
deep_from script counters (t ∷ ts) =
    if nat_lt 400 (sum (after_sign (sign_said t.kind (text_of script t)) counters)) then Some t.from
    else deep_from script (after_sign (sign_said t.kind (text_of script t)) counters) ts

-- the code's counters are these, and their sum is kept
pub record Scans (c : Counters) (counters : List ℕ) : Type 0 where
  pub are : counters_of c ≡ counters
  pub adds : sum (counters_of c) ≡ c.total
