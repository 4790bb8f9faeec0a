-- The scan over the tokens is the scan over their lexemes.
use Rattle.std.proofs.Common.{arith, ℕ, suc, ◌≡◌, ◌+◌, List, [], ◌∷◌, Bool, true, false, nat_lt, sum, Option, Some, None, refl, sym, ap, ◌∙◌, subst, if◌then◌else◌, slice_get}
use Rattle.aql_syntax.specs.declared.sign.Sign.{Sign}
use Rattle.aql_syntax.specs.declared.token.Token.{Token}
use Rattle.aql_syntax.specs.declared.token.TokenKind.{TokenKind}
use Rattle.aql_syntax.specs.declared.token.TokenKind.TheVariants as kinds
use Rattle.aql_syntax.specs.Signs.{spelling, is_word}
use Rattle.aql_syntax.specs.Lexis.{Lexeme, named, numeral, quoted, mark, kind_of}
use Rattle.aql_syntax.specs.Scan.{scan_token, first_deep, no_counters, DeepFaultAt}
use Rattle.aql_lex.specs.declared.signs.TheConstants.{ALL}
use Rattle.aql_lex.specs.Texts.{Says, text_of, EachSays}
use Rattle.aql_lex.specs.Lexing.{first_spelled}
use Rattle.aql_lex.specs.Scanning.{sign_said, after_sign, deep_from}
use Rattle.aql_lex.specs.Lexed.{OneDeepFault, ShallowOrDeep}
use Rattle.aql_lex.proofs.MunchLaws.{tested}
use Rattle.aql_lex.proofs.Spellings.{all_found}
use Rattle.aql_lex.proofs.OneAnswer.{one_list}

mark_said : (g : Sign) (b : Bool) (t : List ℕ) → spelling g ≡ t → sign_said (if b then kinds.Reserved else kinds.Sign) t ≡ Some g
mark_said g true t e = subst (λ z. first_spelled ALL z ≡ Some g) e (all_found g)
mark_said g false t e = subst (λ z. first_spelled ALL z ≡ Some g) e (all_found g)

-- a token counts as its lexeme does
counts : (k : TokenKind) (t : List ℕ) (l : Lexeme) (counters : List ℕ) → k ≡ kind_of l → Says t l → after_sign (sign_said k t) counters ≡ scan_token l counters
counts k t (named x) counters e s = rw e refl
counts k t (numeral x) counters e s = rw e refl
counts k t (quoted x) counters e s = rw e refl
counts k t (mark g) counters e s = rw (e, mark_said g (is_word g) t s) refl

-- where the scan over lexemes passes 400, with the token that stands there
pub record Passes (at : ℕ) (counters : List ℕ) (ts : List Token) (ls : List Lexeme) : Type 0 where
  pub before : ℕ
  pub token : Token
  pub first : first_deep counters ls ≡ Some before
  pub there : slice_get ts before ≡ Some token
  pub begins : token.from ≡ at

pub stays : (script : List ℕ) (ts : List Token) (ls : List Lexeme) (counters : List ℕ) → EachSays script ts ls → deep_from script counters ts ≡ None →
    first_deep counters ls ≡ None
stays script [] [] counters says e = refl
stays script [] (l ∷ ls) counters says e = absurd says
stays script (t ∷ ts) [] counters says e = absurd says
stays script (t ∷ ts) (l ∷ ls) counters says e =
    let same = counts t.kind (text_of script t) l counters says.0 says.1 in
    tested (nat_lt 400 (sum (scan_token l counters))) _ _ _ (first_deep counters (l ∷ ls) ≡ None) (rw same at e)
    (λ q f. cc)
    (λ q f. let later = stays script ts ls (scan_token l counters) says.2 f in rw (q, later) refl)

pub passes : (script : List ℕ) (ts : List Token) (ls : List Lexeme) (counters : List ℕ) (at : ℕ) → EachSays script ts ls → deep_from script counters ts ≡ Some at →
    Passes at counters ts ls
passes script [] [] counters at says e = cc
passes script [] (l ∷ ls) counters at says e = absurd says
passes script (t ∷ ts) [] counters at says e = absurd says
passes script (t ∷ ts) (l ∷ ls) counters at says e =
    let same = counts t.kind (text_of script t) l counters says.0 says.1 in
    tested (nat_lt 400 (sum (scan_token l counters))) _ _ _ (Passes at counters (t ∷ ts) (l ∷ ls)) (rw same at e)
    (λ q f. record { before = 0; token = t; first = rw q refl; there = refl; begins = cc })
    (λ q f.
    let later = passes script ts ls (scan_token l counters) at says.2 f in
    record {
      before = suc later.before;
      token = later.token;
      first = rw (q, later.first) (ap (λ (n : ℕ). Some n) (let k : later.before + 1 ≡ suc later.before = omega arith in k));
      there = later.there;
      begins = later.begins;
    })

one_token_at : (o : Option Token) (t u : Token) → o ≡ Some t → o ≡ Some u → t ≡ u
one_token_at o t u e f = let g : ◌≡◌ {A = Option Token} (Some t) (Some u) = sym e ∙ f in cc

one_place : (o : Option ℕ) (m n : ℕ) → o ≡ Some m → o ≡ Some n → m ≡ n
one_place o m n e f = let g : ◌≡◌ {A = Option ℕ} (Some m) (Some n) = sym e ∙ f in cc

one_fault : (m n : ℕ) (ts : List Token) (ls : List Lexeme) → DeepFaultAt m ts ls → DeepFaultAt n ts ls → m ≡ n
one_fault m n ts ls f g =
    let p : f.before ≡ g.before = one_place (first_deep no_counters ls) f.before g.before f.first g.first in
    let there = subst (λ (z : ℕ). slice_get ts z ≡ Some f.token) p f.there in
    let q : f.token ≡ g.token = one_token_at (slice_get ts g.before) f.token g.token there g.there in
    sym f.begins ∙ ap (λ (z : Token). z.from) q ∙ g.begins

pub one_deep : OneDeepFault
one_deep m n script f g =
    let same = one_list script f.0 g.0 f.1.0 g.1.0 f.1.1.0 g.1.1.0 in
    one_fault m n g.0 g.1.0 (subst (λ (z : List Lexeme). DeepFaultAt m g.0 z) same.lexemes (subst (λ (z : List Token). DeepFaultAt m z f.1.0) same.tokens f.1.1.1)) g.1.1.1

pub shallow_or_deep : ShallowOrDeep
shallow_or_deep n script ts a f =
    let same = one_list script ts f.0 a.0 f.1.0 a.1.0 f.1.1.0 in
    let none : first_deep no_counters f.1.0 ≡ None = subst (λ (z : List Lexeme). first_deep no_counters z ≡ None) same.lexemes a.1.1 in
    let bad : ◌≡◌ {A = Option ℕ} None (Some f.1.1.1.before) = sym none ∙ f.1.1.1.first in cc

pub fault_of : (at : ℕ) (ts : List Token) (ls : List Lexeme) → Passes at no_counters ts ls → DeepFaultAt at ts ls
fault_of at ts ls p = record { before = p.before; token = p.token; first = p.first; there = p.there; begins = p.begins }
