-- The functions on lists and the lexis say the same.
use Rattle.std.proofs.Common.{ℕ, ◌≡◌, ◌+◌, ◌-◌, ◌*◌, List, [], ◌∷◌, Bool, true, false, ◌||◌, ◌==◌, Some, refl, sym, subst, arith, if◌then◌else◌}
use Rattle.std.proofs.lemmas.Bool.{eqb-true}
use Rattle.std.proofs.lemmas.Grind.{common_steps}
use Rattle.aql_syntax.specs.Lexis.{is_digit, is_plain, is_hex, hex_value, closes_comment, Ends, MaximalMunch, munch_end, munch_more, Digits, digits_end, digits_more, InString, string_end, string_plain, string_escape, string_hex, InComment, comment_end, comment_more}
use Rattle.aql_lex.specs.Texts.{digits_value}
use Rattle.aql_lex.specs.Lexing.{munch_rest, StringState, string_rest, inside, escaped, hex, last_hex, comment_rest}

pub munch-reads : (p : ℕ → Bool) (s : List ℕ) → (t : List ℕ) × MaximalMunch p t s (munch_rest p s)
munch-reads p [] = ([], munch_end tt)
munch-reads p (b ∷ s) = go (p b) refl (munch-reads p s)
  where
    go : (t : Bool) → p b ≡ t → (x : List ℕ) × MaximalMunch p x s (munch_rest p s) → (x : List ℕ) × MaximalMunch p x (b ∷ s) (if t then munch_rest p s else b ∷ s)
    go true e h = (b ∷ h.0, munch_more e h.1)
    go false e h = ([], munch_end e)

ends : (p : ℕ → Bool) (r : List ℕ) → Ends p r → munch_rest p r ≡ r
ends p [] e = refl
ends p (b ∷ s) e = rw e refl

pub munch-is : {p : ℕ → Bool} {t s r : List ℕ} → MaximalMunch p t s r → munch_rest p s ≡ r
munch-is {p} (munch_end {r} e) = ends p r e
munch-is (munch_more e d) = rw e (munch-is d)

pub string-is : {t s r : List ℕ} → InString t s r → string_rest inside s ≡ Some r
string-is string_end = refl
string-is (string_plain {b} {t} {s} {r} e d) = let i : string_rest inside s ≡ Some r = string-is d in grind (arith, common_steps)
string-is (string_escape {b} {s} {r} e d) = rw e (string-is d)
string-is (string_hex e f d) = rw (e, f) (string-is d)

-- a test that was made, and what follows from either side
pub tested : {A : Type 0} (b : Bool) (x y z : A) (Q : Type 0) → (if b then x else y) ≡ z → (b ≡ true → x ≡ z → Q) → (b ≡ false → y ≡ z → Q) → Q
tested true x y z Q e f g = f refl e
tested false x y z Q e f g = g refl e

-- what a string's rest is, by the place in it
abbrev At : StringState → List ℕ → List ℕ → Type 0
At inside s r = (t : List ℕ) × InString t s r
At escaped s r = (t : List ℕ) × InString t (92 ∷ s) r
At hex s r = (t : List ℕ) × InString t (92 ∷ 120 ∷ s) r
At last_hex s r = (a : ℕ) → is_hex a ≡ true → (t : List ℕ) × InString t (92 ∷ 120 ∷ a ∷ s) r

at_number : {b n : ℕ} {s r : List ℕ} → (b == n) ≡ true → (t : List ℕ) × InString t (n ∷ s) r → (t : List ℕ) × InString t (b ∷ s) r
at_number {b} {n} {s} {r} e h = subst (λ (z : ℕ). (t : List ℕ) × InString t (z ∷ s) r) (sym (eqb-true b n e)) h

pub string-reads : (p : StringState) (s r : List ℕ) → string_rest p s ≡ Some r → At p s r
string-reads inside [] r e = cc
string-reads escaped [] r e = cc
string-reads hex [] r e = cc
string-reads last_hex [] r e = cc
string-reads inside (b ∷ s) r e =
    tested (b == 34) _ _ _ ((t : List ℕ) × InString t (b ∷ s) r) e
    (λ q f. at_number q (let same : s ≡ r = cc in subst (λ z. (t : List ℕ) × InString t (34 ∷ s) z) same ([], string_end)))
    (λ _ e. tested (b == 92) _ _ _ ((t : List ℕ) × InString t (b ∷ s) r) e
    (λ q f. at_number q (string-reads escaped s r f))
    (λ _ e. tested (is_plain b) _ _ _ ((t : List ℕ) × InString t (b ∷ s) r) e
    (λ q f. let h = string-reads inside s r f in (b ∷ h.0, string_plain q h.1))
    (λ _ f. cc)))
string-reads escaped (b ∷ s) r e =
    tested (b == 34 || b == 92) _ _ _ ((t : List ℕ) × InString t (92 ∷ b ∷ s) r) e
    (λ q f. let h = string-reads inside s r f in (b ∷ h.0, string_escape q h.1))
    (λ _ e. tested (b == 120) _ _ _ ((t : List ℕ) × InString t (92 ∷ b ∷ s) r) e
    (λ q f. subst (λ (z : ℕ). (t : List ℕ) × InString t (92 ∷ z ∷ s) r) (sym (eqb-true b 120 q)) (string-reads hex s r f))
    (λ _ f. cc))
string-reads hex (b ∷ s) r e =
    tested (is_hex b) _ _ _ ((t : List ℕ) × InString t (92 ∷ 120 ∷ b ∷ s) r) e (λ q f. string-reads last_hex s r f b q) (λ _ f. cc)
string-reads last_hex (b ∷ s) r e = λ a h.
    tested (is_hex b) _ _ _ ((t : List ℕ) × InString t (92 ∷ 120 ∷ a ∷ b ∷ s) r) e
    (λ q f. let k = string-reads inside s r f in ((16 * hex_value a + hex_value b) ∷ k.0, string_hex h q k.1)) (λ _ f. cc)

pub comment-is : {s r : List ℕ} → InComment s r → comment_rest false s ≡ Some r
comment-is comment_end = refl
comment-is (comment_more {b} {s} {r} e d) = go (b == 42) refl s (comment-is d) e
  where
    go : (t : Bool) → (b == 42) ≡ t → (s : List ℕ) → comment_rest false s ≡ Some r → closes_comment (b ∷ s) ≡ false → comment_rest t s ≡ Some r
    go false k s h e = h
    go true k [] h e = h
    go true k (c ∷ s) h e = let i : (c == 41) ≡ false = rw k at e in rw i h

-- after a star, or not
abbrev In_comment : Bool → List ℕ → List ℕ → Type 0
In_comment false s r = InComment s r
In_comment true s r = InComment (42 ∷ s) r

pub comment-reads : (star : Bool) (s r : List ℕ) → comment_rest star s ≡ Some r → In_comment star s r
comment-reads false [] r e = cc
comment-reads true [] r e = cc
comment-reads false (b ∷ s) r e = go (b == 42) refl (comment-reads (b == 42) s r e)
  where
    go : (t : Bool) → (b == 42) ≡ t → In_comment t s r → InComment (b ∷ s) r
    go true k h = subst (λ (z : ℕ). InComment (z ∷ s) r) (sym (eqb-true b 42 k)) h
    go false k h = comment_more (open_at s) h
      where
        open_at : (s : List ℕ) → closes_comment (b ∷ s) ≡ false
        open_at [] = refl
        open_at (c ∷ s) = rw k refl
comment-reads true (b ∷ s) r e =
    tested (b == 41) _ _ _ (InComment (42 ∷ b ∷ s) r) e
    (λ q f. let same : s ≡ r = cc in
    subst (λ (z : ℕ). InComment (42 ∷ z ∷ s) r) (sym (eqb-true b 41 q)) (subst (λ z. InComment (42 ∷ 41 ∷ s) z) same comment_end))
    (λ q f. comment_more q (go (b == 42) refl (comment-reads (b == 42) s r f)))
  where
    go : (t : Bool) → (b == 42) ≡ t → In_comment t s r → InComment (b ∷ s) r
    go true k h = subst (λ (z : ℕ). InComment (z ∷ s) r) (sym (eqb-true b 42 k)) h
    go false k h = comment_more (open_at s) h
      where
        open_at : (s : List ℕ) → closes_comment (b ∷ s) ≡ false
        open_at [] = refl
        open_at (c ∷ s) = rw k refl

pub digits-are : {n v : ℕ} {s r : List ℕ} → Digits n s r v → (digits_value n s ≡ v) × (munch_rest is_digit s ≡ r)
digits-are (digits_end {n} {r} e) = go r e
  where
    go : (r : List ℕ) → Ends is_digit r → (digits_value n r ≡ n) × (munch_rest is_digit r ≡ r)
    go [] e = (refl, refl)
    go (b ∷ s) e = (rw e refl, rw e refl)
digits-are (digits_more e d) = let h = digits-are d in (rw e h.0, rw e h.1)

pub digits-read : (n : ℕ) (s : List ℕ) → Digits n s (munch_rest is_digit s) (digits_value n s)
digits-read n [] = digits_end tt
digits-read n (b ∷ s) = go (is_digit b) refl (digits-read (10 * n + (b - 48)) s)
  where
    go : (t : Bool) → is_digit b ≡ t → Digits (10 * n + (b - 48)) s (munch_rest is_digit s) (digits_value (10 * n + (b - 48)) s) →
        Digits n (b ∷ s) (if t then munch_rest is_digit s else b ∷ s) (if t then digits_value (10 * n + (b - 48)) s else n)
    go true e h = digits_more e h
    go false e h = digits_end e
