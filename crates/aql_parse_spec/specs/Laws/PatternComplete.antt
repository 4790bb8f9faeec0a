-- Patterns of the grammar are read.
use Rattle.std.specs.Prelude.{ℕ, zero, suc, ◌≡◌, ◌<◌, ◌≤◌, List, ◌∷◌, Some, length}
use Rattle.std.proofs.Common.{refl, ap, ◌∙◌, arith}
use Rattle.aql_syntax.specs.declared.sign.Sign.{Sign}
use Rattle.aql_syntax.specs.declared.sign.Sign.TheVariants as signs
use Rattle.aql_syntax.specs.Lexis.{Lexeme, mark}
use Rattle.aql_syntax.specs.Tree.{Pat, Pats, no_pat, pat, tuple}
use Rattle.aql_syntax.specs.Grammar.{ReadsPat, pat_bind, pat_any, pat_number, pat_text, pat_true, pat_false, pat_name, pat_paren, pat_tuple, ReadsPats, pats_last, pats_more}
use Rattle.aql_parse_spec.specs.Laws.SignNumbers.{same_sign-self}
use Rattle.aql_parse_spec.specs.Parsing.{Out, after, name_at, enclosed_pats, pats_rest, pats_at, pat_at, pat_then}
use Rattle.aql_parse_spec.specs.Laws.First.{pat_shrinks}

-- what comes next isn't a comma
abbrev pub NoComma : List Lexeme → Type 0
NoComma (mark signs.Comma ∷ s) = ⊥
NoComma _ = Unit {0}

pats_rest_stops : (more : List Lexeme → Out Pats) (p : Pat) (r : List Lexeme) → NoComma r → pats_rest more p r ≡ Some (pat p no_pat, r)
pats_rest_stops more p (mark signs.Comma ∷ r) st = absurd st
pats_rest_stops more p r st = refl

pats_one : (q : List Lexeme → Out Pat) (k : ℕ) (p : Pat) (s r : List Lexeme) → q s ≡ Some (p, r) → NoComma r → 0 < k →
    pats_at q k s ≡ Some (pat p no_pat, r)
unfolding pats_at
pats_one q zero p s r is st lt = absurd (omega arith)
pats_one q (suc k) p s r is st lt = rw is (pats_rest_stops (pats_at q k) p r st)

pats_cons : (q : List Lexeme → Out Pat) (k : ℕ) (p : Pat) (ps : Pats) (s s' r : List Lexeme) → q s ≡ Some (p, mark signs.Comma ∷ s') →
    pats_at q k s' ≡ Some (ps, r) → pats_at q (suc k) s ≡ Some (pat p ps, r)
unfolding pats_at
pats_cons q k p ps s s' r is rest = rw (is, rest) refl

pub enclosed_more : {ps : Pats} {s r : List Lexeme} (p : Pat) → ReadsPats ps s r → enclosed_pats (pat p ps) ≡ tuple (pat p ps)
enclosed_more p (pats_last d) = refl
enclosed_more p (pats_more d ds) = refl

pat_paren_at : (n : ℕ) (ps : Pats) (s r : List Lexeme) → pats_at (pat_at n) n s ≡ Some (ps, mark signs.Close ∷ r) →
    pat_at (suc n) (mark signs.Open ∷ s) ≡ Some (enclosed_pats ps, r)
unfolding pat_at after
pat_paren_at n ps s r is = rw is refl

mutual
  unfolding pat_at name_at

  pub pat_complete : {p : Pat} {s r : List Lexeme} → ReadsPat p s r → (n : ℕ) → length s ≤ n → pat_at n s ≡ Some (p, r)
  pat_complete pat_bind zero le = absurd (omega arith)
  pat_complete pat_bind (suc n) le = refl
  pat_complete pat_any zero le = absurd (omega arith)
  pat_complete pat_any (suc n) le = refl
  pat_complete pat_number zero le = absurd (omega arith)
  pat_complete pat_number (suc n) le = refl
  pat_complete pat_text zero le = absurd (omega arith)
  pat_complete pat_text (suc n) le = refl
  pat_complete pat_true zero le = absurd (omega arith)
  pat_complete pat_true (suc n) le = refl
  pat_complete pat_false zero le = absurd (omega arith)
  pat_complete pat_false (suc n) le = refl
  pat_complete pat_name zero le = absurd (omega arith)
  pat_complete pat_name (suc n) le = refl
  pat_complete (pat_paren d) zero le = absurd (omega arith)
  pat_complete (pat_paren {p} {s} {r} d) (suc n) le =
      pat_paren_at n (pat p no_pat) s r (pats_one (pat_at n) n p s (mark signs.Close ∷ r) (pat_complete d n (omega arith)) tt (omega (arith, pat_shrinks d)))
  pat_complete (pat_tuple d ds) zero le = absurd (omega arith)
  pat_complete (pat_tuple d ds) (suc zero) le = absurd (omega (arith, pat_shrinks d))
  pat_complete (pat_tuple {p} {ps} {s} {s'} {r} d ds) (suc (suc n)) le =
      pat_paren_at (suc n) (pat p ps) s r
      (pats_cons (pat_at (suc n)) n p ps s s' (mark signs.Close ∷ r) (pat_complete d (suc n) (omega arith))
      (pats_complete ds (suc n) n (omega (arith, pat_shrinks d)) (omega (arith, pat_shrinks d)) tt))
      ∙ ap (λ z. Some (z, r)) (enclosed_more p ds)

  pub pats_complete : {ps : Pats} {s r : List Lexeme} → ReadsPats ps s r → (n k : ℕ) → length s ≤ k → length s ≤ n → NoComma r →
      pats_at (pat_at n) k s ≡ Some (ps, r)
  pats_complete (pats_last {p} {s} {r} d) n k le lt st = pats_one (pat_at n) k p s r (pat_complete d n lt) st (omega (arith, pat_shrinks d))
  pats_complete (pats_more d ds) n zero le lt st = absurd (omega (arith, pat_shrinks d))
  pats_complete (pats_more {p} {ps} {s} {s'} {r} d ds) n (suc k) le lt st =
      pats_cons (pat_at n) k p ps s s' r (pat_complete d n lt) (pats_complete ds n k (omega (arith, pat_shrinks d)) (omega (arith, pat_shrinks d)) st)

pub after_self : (g : Sign) (s : List Lexeme) → after g (mark g ∷ s) ≡ Some s
unfolding after
after_self g s = rw (same_sign-self g) refl

pub pat_then_complete : {p : Pat} {s r : List Lexeme} (g : Sign) → ReadsPat p s (mark g ∷ r) → (n : ℕ) → length s ≤ n → pat_then g n s ≡ Some (p, r)
unfolding pat_then
pat_then_complete {p} {s} {r} g d n le = rw (pat_complete d n le, after_self g r) refl
