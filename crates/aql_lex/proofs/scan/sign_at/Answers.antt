use Rattle.std.proofs.Common.{◌≡◌, List, ℕ, Option, refl, sym, ap, ◌∙◌}
use Rattle.aql_syntax.specs.declared.token.TokenKind.{TokenKind}
use Rattle.aql_syntax.specs.declared.token.TokenKind.TheVariants as kinds
use Rattle.aql_syntax.specs.declared.sign.Sign.{Sign}
use Rattle.aql_lex.specs.declared.signs.TheConstants.{ALL}
use Rattle.aql_lex.specs.Lexing.{first_spelled}
use Rattle.aql_lex.specs.Scanning.{sign_said}
use Rattle.aql_lex.proofs.Spellings.{sign_is}
use Rattle.aql_lex.proofs.scan.sign_at.Goals as goal

said : (k : TokenKind) (t u : List ℕ) (o : Option Sign) → sign_said k u ≡ first_spelled ALL u → o ≡ first_spelled ALL t → t ≡ u → o ≡ sign_said k u
said k t u o a b e = b ∙ ap (first_spelled ALL) e ∙ sym a

pub returns-in-Reserved : goal.returns-in-Reserved
returns-in-Reserved c =
    said c.args.token.kind c.text_at.result.now _ c.sign_of.result (let k : c.args.token.kind ≡ kinds.Reserved = c.in-Reserved.is in rw k refl)
    (sign_is c.text_at.result.now c.sign_of.result c.sign_of.ensures) c.text_at.ensures

pub returns-in-Sign : goal.returns-in-Sign
returns-in-Sign c =
    said c.args.token.kind c.text_at-in-Sign.result.now _ c.sign_of-in-Sign.result (let k : c.args.token.kind ≡ kinds.Sign = c.in-Sign.is in rw k refl)
    (sign_is c.text_at-in-Sign.result.now c.sign_of-in-Sign.result c.sign_of-in-Sign.ensures) c.text_at-in-Sign.ensures
