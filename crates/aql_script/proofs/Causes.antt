-- A script has one cause at most.
use Rattle.std.proofs.Common.{◌≡◌, ◌≤◌, ◌<◌, ◌+◌, ◌-◌, ◌⊎◌, inl, inr, ℕ, zero, suc, arith, refl, sym, ap, subst, List, [], ◌∷◌, length}
use Rattle.std.proofs.lemmas.Bool.{cases_lt}
use Rattle.aql_ty.specs.Types.{Sort}
use Rattle.aql_syntax.specs.Lexis.{Lexeme, TextFaultAt}
use Rattle.aql_syntax.specs.Grammar.{ReadsScript, SyntaxFaultAt}
use Rattle.aql_syntax.specs.Size.{AreWithinLimits, IsLarge, most_nodes, most_levels, expanded_size, expanded_levels}
use Rattle.aql_syntax.specs.Tree.{Declaration}
use Rattle.aql_lex.specs.Lexed.{IsDeepAt, OneList, OneTextFault, TokensOrTextFault, OneDeepFault, ShallowOrDeep}
use Rattle.aql_parse_spec.specs.Scripts.{OneReading, OneFault, ReadsOrFaults}
use Rattle.aql_infer_steps.specs.Typed.{ArePrincipal}
use Rattle.aql_infer.specs.Checked.{IsFirstUntyped}
use Rattle.aql_prelude.specs.Prelude.{prelude_count}
use Rattle.aql_script.specs.Script.{IsTokenisedAs, IsParsedAs, ReadsAlone, AreTyped, positions, IsFirstLarge}
use Rattle.aql_script.specs.Causes.{Found, Sound, Text, Deep, Syntax, Type', Large, IsFound, OneCause}

one_untyped : (earlier ds : List Declaration) (m n : ℕ) → IsFirstUntyped earlier ds m → IsFirstUntyped earlier ds n → m ≡ n
one_untyped earlier [] m n u v = absurd u
one_untyped earlier (d ∷ ds) zero n u v = absurd u
one_untyped earlier (d ∷ ds) (suc zero) zero u v = absurd v
one_untyped earlier (d ∷ ds) (suc zero) (suc zero) u v = refl
one_untyped earlier (d ∷ ds) (suc zero) (suc (suc n)) u v = absurd (u v.0.0 v.0.1)
one_untyped earlier (d ∷ ds) (suc (suc m)) zero u v = absurd v
one_untyped earlier (d ∷ ds) (suc (suc m)) (suc zero) u v = absurd (v u.0.0 u.0.1)
one_untyped earlier (d ∷ ds) (suc (suc m)) (suc (suc n)) u v = ap (λ k. suc k) (one_untyped (d ∷ earlier) ds (suc m) (suc n) u.1 v.1)

all_typed : (earlier ds : List Declaration) (ss : List Sort) (n : ℕ) → ArePrincipal earlier ds ss → IsFirstUntyped earlier ds n → ⊥
all_typed earlier [] ss n p u = u
all_typed earlier (d ∷ ds) [] n p u = p
all_typed earlier (d ∷ ds) (s ∷ ss) zero p u = u
all_typed earlier (d ∷ ds) (s ∷ ss) (suc zero) p u = u s p.0.principal.has
all_typed earlier (d ∷ ds) (s ∷ ss) (suc (suc n)) p u = all_typed (d ∷ earlier) ds ss (suc n) p.1 u.1

not_large : (all : List Declaration) (k n : ℕ) → AreWithinLimits all k → 1 ≤ n → n ≤ k → IsLarge all n → ⊥
not_large all k n w one le (inl more) = (let fits : expanded_size all n ≤ most_nodes = (w n one le).0 in omega (arith, more, fits))
not_large all k n w one le (inr more) = (let fits : expanded_levels all n ≤ most_levels = (w n one le).1 in omega (arith, more, fits))

large_before : (ds : List Declaration) (m n : ℕ) → IsFirstLarge ds m → IsFirstLarge ds n → m < n → ⊥
large_before ds m n a b less =
    let one = a.first in
    not_large (positions ds) (prelude_count + n - 1) (prelude_count + m) b.before (omega (arith, one)) (omega (arith, less)) a.large

one_large : (ds : List Declaration) (m n : ℕ) → IsFirstLarge ds m → IsFirstLarge ds n → m ≡ n
one_large ds m n a b = at (cases_lt m n) (cases_lt n m)
  where
    at : (m < n) ⊎ (n ≤ m) → (n < m) ⊎ (m ≤ n) → m ≡ n
    at (inl less) _ = absurd (large_before ds m n a b less)
    at (inr ge) (inl less) = absurd (large_before ds n m b a less)
    at (inr ge) (inr le) = omega (arith, ge, le)

none_large : (ds : List Declaration) (n : ℕ) → AreWithinLimits (positions ds) (prelude_count + length ds) → IsFirstLarge ds n → ⊥
none_large ds n w a =
    let one = a.first in
    let last = a.last in
    not_large (positions ds) (prelude_count + length ds) (prelude_count + n) w (omega (arith, one)) (omega (arith, last)) a.large

pub record Known : Type 0 where
  pub list : OneList
  pub text : OneTextFault
  pub either : TokensOrTextFault
  pub deep : OneDeepFault
  pub shallow : ShallowOrDeep
  pub reading : OneReading
  pub fault : OneFault
  pub both : ReadsOrFaults

text_tok : Known → (bytes : List ℕ) (at : ℕ) (ls : List Lexeme) → TextFaultAt at bytes → IsTokenisedAs bytes ls → ⊥
text_tok k bytes at ls t tok = k.either at bytes tok.0 ls tok.1 t

text_deep : Known → (bytes : List ℕ) (at n : ℕ) → TextFaultAt at bytes → IsDeepAt n bytes → ⊥
text_deep k bytes at n t d = k.either at bytes d.0 d.1.0 d.1.1.0 t

deep_tok : Known → (bytes : List ℕ) (at : ℕ) (ls : List Lexeme) → IsDeepAt at bytes → IsTokenisedAs bytes ls → ⊥
deep_tok k bytes at ls d tok = k.shallow at bytes tok.0 (ls, (tok.1, tok.2)) d

syntax_read : Known → (bytes : List ℕ) (n : ℕ) (ds : List Declaration) → IsFound bytes (Syntax n) → ReadsAlone bytes ds → ⊥
syntax_read k bytes n ds s r =
    let same = (k.list bytes s.1.0 r.0.1.0 s.0 r.0.0 s.1.1 r.0.1.1).lexemes in
    k.both ds n r.0.0 r.0.2 (subst (λ ls. SyntaxFaultAt n ls) same s.2)

syntax_same : Known → (bytes : List ℕ) (m n : ℕ) → IsFound bytes (Syntax m) → IsFound bytes (Syntax n) → m ≡ n
syntax_same k bytes m n s r =
    let same = (k.list bytes s.1.0 r.1.0 s.0 r.0 s.1.1 r.1.1).lexemes in
    k.fault m n r.0 (subst (λ ls. SyntaxFaultAt m ls) same s.2) r.2

same_reading : (bytes : List ℕ) (ds es : List Declaration) → ReadsAlone bytes ds → ReadsAlone bytes es → es ≡ ds
same_reading bytes ds es a b = a.1 es b.0

plus_same : (m n : ℕ) → prelude_count + m ≡ prelude_count + n → m ≡ n
plus_same m n e = omega (arith, e)

pub one_cause : Known → OneCause
one_cause k bytes Sound Sound a b = refl
one_cause k bytes Sound (Text n) a b = absurd (text_tok k bytes n (a.1.0.0) b a.1.0.1)
one_cause k bytes Sound (Deep n) a b = absurd (deep_tok k bytes n (a.1.0.0) b a.1.0.1)
one_cause k bytes Sound (Syntax n) a b = absurd (syntax_read k bytes n a.0 b a.1)
one_cause k bytes Sound (Type' n) a b = absurd (all_typed [] (positions b.0) a.2.0 (prelude_count + n) (subst (λ ds. AreTyped ds a.2.0) (same_reading bytes b.0 a.0 b.1 a.1) a.2.1) b.3)
one_cause k bytes Sound (Large n) a b = absurd (none_large b.0 n (subst (λ ds. AreWithinLimits (positions ds) (prelude_count + length ds)) (same_reading bytes b.0 a.0 b.1 a.1) a.3) b.3)
one_cause k bytes (Text m) Sound a b = absurd (text_tok k bytes m (b.1.0.0) a b.1.0.1)
one_cause k bytes (Text m) (Text n) a b = ap Text (k.text m n bytes a b)
one_cause k bytes (Text m) (Deep n) a b = absurd (text_deep k bytes m n a b)
one_cause k bytes (Text m) (Syntax n) a b = absurd (text_tok k bytes m (b.0) a b.1)
one_cause k bytes (Text m) (Type' n) a b = absurd (text_tok k bytes m (b.1.0.0) a b.1.0.1)
one_cause k bytes (Text m) (Large n) a b = absurd (text_tok k bytes m (b.1.0.0) a b.1.0.1)
one_cause k bytes (Deep m) Sound a b = absurd (deep_tok k bytes m (b.1.0.0) a b.1.0.1)
one_cause k bytes (Deep m) (Text n) a b = absurd (text_deep k bytes n m b a)
one_cause k bytes (Deep m) (Deep n) a b = ap Deep (k.deep m n bytes a b)
one_cause k bytes (Deep m) (Syntax n) a b = absurd (deep_tok k bytes m (b.0) a b.1)
one_cause k bytes (Deep m) (Type' n) a b = absurd (deep_tok k bytes m (b.1.0.0) a b.1.0.1)
one_cause k bytes (Deep m) (Large n) a b = absurd (deep_tok k bytes m (b.1.0.0) a b.1.0.1)
one_cause k bytes (Syntax m) Sound a b = absurd (syntax_read k bytes m b.0 a b.1)
one_cause k bytes (Syntax m) (Text n) a b = absurd (text_tok k bytes n (a.0) b a.1)
one_cause k bytes (Syntax m) (Deep n) a b = absurd (deep_tok k bytes n (a.0) b a.1)
one_cause k bytes (Syntax m) (Syntax n) a b = ap Syntax (syntax_same k bytes m n a b)
one_cause k bytes (Syntax m) (Type' n) a b = absurd (syntax_read k bytes m b.0 a b.1)
one_cause k bytes (Syntax m) (Large n) a b = absurd (syntax_read k bytes m b.0 a b.1)
one_cause k bytes (Type' m) Sound a b = absurd (all_typed [] (positions a.0) b.2.0 (prelude_count + m) (subst (λ ds. AreTyped ds b.2.0) (same_reading bytes a.0 b.0 a.1 b.1) b.2.1) a.3)
one_cause k bytes (Type' m) (Text n) a b = absurd (text_tok k bytes n (a.1.0.0) b a.1.0.1)
one_cause k bytes (Type' m) (Deep n) a b = absurd (deep_tok k bytes n (a.1.0.0) b a.1.0.1)
one_cause k bytes (Type' m) (Syntax n) a b = absurd (syntax_read k bytes n a.0 b a.1)
one_cause k bytes (Type' m) (Type' n) a b = ap Type' (plus_same m n (one_untyped [] (positions b.0) (prelude_count + m) (prelude_count + n) (subst (λ ds. IsFirstUntyped [] (positions ds) (prelude_count + m)) (same_reading bytes b.0 a.0 b.1 a.1) a.3) b.3))
one_cause k bytes (Type' m) (Large n) a b = absurd (all_typed [] (positions a.0) b.2.0 (prelude_count + m) (subst (λ ds. AreTyped ds b.2.0) (same_reading bytes a.0 b.0 a.1 b.1) b.2.1) a.3)
one_cause k bytes (Large m) Sound a b = absurd (none_large a.0 m (subst (λ ds. AreWithinLimits (positions ds) (prelude_count + length ds)) (same_reading bytes a.0 b.0 a.1 b.1) b.3) a.3)
one_cause k bytes (Large m) (Text n) a b = absurd (text_tok k bytes n (a.1.0.0) b a.1.0.1)
one_cause k bytes (Large m) (Deep n) a b = absurd (deep_tok k bytes n (a.1.0.0) b a.1.0.1)
one_cause k bytes (Large m) (Syntax n) a b = absurd (syntax_read k bytes n a.0 b a.1)
one_cause k bytes (Large m) (Type' n) a b = absurd (all_typed [] (positions b.0) a.2.0 (prelude_count + n) (subst (λ ds. AreTyped ds a.2.0) (same_reading bytes b.0 a.0 b.1 a.1) a.2.1) b.3)
one_cause k bytes (Large m) (Large n) a b = ap Large (one_large b.0 m n (subst (λ ds. IsFirstLarge ds m) (same_reading bytes b.0 a.0 b.1 a.1) a.3) b.3)
