-- What stands at the front, and what is found there.
use Rattle.std.proofs.Common.{ℕ, ◌≡◌, ◌<◌, ◌≤◌, ◌^◌, ◌-◌, List, [], ◌∷◌, ◌++◌, Bool, true, false, ◌||◌, ◌==◌, Option, Some, None, refl, sym, ap, ◌∙◌, subst, arith, length, take, if◌then◌else◌, nat_lt, length-append}
use Rattle.std.proofs.Math.Seq.{take-append_seam}
use Rattle.std.proofs.lemmas.Grind.{common_steps}
use Rattle.std.proofs.lemmas.Bool.{eqb-true, ltb-true, or_parts}
use Rattle.aql_syntax.specs.declared.sign.Sign.{Sign}
use Rattle.aql_syntax.specs.declared.sign.Sign.TheVariants as signs
use Rattle.aql_syntax.specs.declared.token.TokenKind.{TokenKind}
use Rattle.aql_syntax.specs.declared.token.TokenKind.TheVariants as kinds
use Rattle.aql_syntax.specs.Signs.{spelling, is_word, joins}
use Rattle.aql_syntax.specs.Lexis.{is_letter, is_digit, is_space, is_name_byte, Ends, MaximalMunch, munch_end, munch_more, Digits, digits_end, digits_more, InString, string_end, string_plain, string_escape, string_hex, InComment, comment_end, comment_more, Blank, blank_space, blank_comment, Lexeme, named, numeral, quoted, mark, kind_of, Begins, begins_name, begins_word, begins_number, begins_text, begins_sign, Covers, covers_token}
use Rattle.aql_syntax.specs.declared.token.Token.{Token}
use Rattle.aql_lex.specs.declared.signs.TheConstants.{WORDS, SIGNS}
use Rattle.aql_lex.specs.declared.lexer.Item.{Item}
use Rattle.aql_lex.specs.declared.lexer.Item.TheVariants as items
use Rattle.aql_lex.specs.Texts.{digits_value}
use Rattle.aql_value.specs.Partial.{◌>>=◌}
use Rattle.aql_lex.specs.Lexing.{munch_rest, string_rest, inside, comment_rest, first_spelled, sign_from, number, word, word_item, paren, found_at}
use Rattle.aql_lex.proofs.MunchLaws.{munch-is, munch-reads, string-is, string-reads, comment-is, comment-reads, digits-are, digits-read, tested}
use Rattle.aql_lex.proofs.Spellings.{spelled_so, word_is, word_reads, no_word, no_word_is, sign_stands, listed, listed_is_sign, listed_ends}

-- what the code finds of a token
abbrev pub shape : Lexeme → Item
shape (named x) = items.Said kinds.Name
shape (numeral n) = items.Said kinds.Number
shape (quoted s) = items.Said kinds.Text
shape (mark g) = items.Mark g

-- what stands there, where an item was found
abbrev pub Stands : Item → List ℕ → List ℕ → Type 0
Stands items.Blank s r = Blank s r
Stands (items.Said k) s r = (l : Lexeme) × ((shape l ≡ items.Said k) × Begins l s r)
Stands (items.Mark g) s r = Begins (mark g) s r

digit_is_no_letter : (b : ℕ) → is_digit b ≡ true → is_letter b ≡ false
digit_is_no_letter b e = grind (arith, common_steps)

space_is_no_letter : (b : ℕ) → is_space b ≡ true → is_letter b ≡ false
space_is_no_letter b e = grind (arith, common_steps)

space_is_no_digit : (b : ℕ) → is_space b ≡ true → is_digit b ≡ false
space_is_no_digit b e = grind (arith, common_steps)

lt_test : (a b : ℕ) → a < b → nat_lt a b ≡ true
lt_test a b h = grind (arith, common_steps)

-- a maximal munch is the bytes before its rest
pub munch_text : {p : ℕ → Bool} {t s r : List ℕ} → MaximalMunch p t s r → s ≡ t ++ r
munch_text (munch_end e) = refl
munch_text (munch_more {b} q d) = ap (λ z. b ∷ z) (munch_text d)

pub front : (t s r : List ℕ) → s ≡ t ++ r → take (length s - length r) s ≡ t
front t s r e =
    subst (λ z. take (length z - length r) z ≡ t) (sym e)
    (let n : length (t ++ r) - length r ≡ length t = omega (arith, length-append t r) in rw n (take-append_seam t r))

-- a blank is found
pub blank_found : {s r : List ℕ} → Blank s r → found_at s ≡ Some (items.Blank, r)
unfolding found_at
blank_found (blank_space {b} e) = rw (space_is_no_letter b e, space_is_no_digit b e, e) refl
blank_found (blank_comment d) = rw (comment-is d) refl

-- a sign is found at its spelling, where no longer one stands
abbrev SignFound : Sign → List ℕ → Type 0
SignFound g r =
    Ends (joins g) r → ◌≡◌ {A = Option (Item × List ℕ)} (if is_word g then None else found_at (spelling g ++ r)) (if is_word g then None else Some (items.Mark g, r))

sign_found : (g : Sign) (r : List ℕ) → SignFound g r
unfolding found_at
sign_found signs.Open [] = λ e. refl
sign_found signs.Open (b ∷ r) = λ e. rw e refl
sign_found signs.Equal [] = λ e. refl
sign_found signs.Equal (b ∷ r) = λ e. let h = or_parts (b == 61) (b == 62) e in rw (h.0, h.1) refl
sign_found signs.Less [] = λ e. refl
sign_found signs.Less (b ∷ r) = λ e.
    let h = or_parts (b == 45 || b == 61) (b == 62) e in
    let k = or_parts (b == 45) (b == 61) h.0 in rw (k.0, k.1, h.1) refl
sign_found signs.Greater [] = λ e. refl
sign_found signs.Greater (b ∷ r) = λ e. rw e refl
sign_found _ r = λ e. refl

-- a token is found
pub begins_found : {l : Lexeme} {s r : List ℕ} → Begins l s r → found_at s ≡ Some (shape l, r)
unfolding found_at
begins_found (begins_name {b} {t} {s} {r} e d n) =
    let f : take (length (b ∷ s) - length r) (b ∷ s) ≡ b ∷ t = front (b ∷ t) (b ∷ s) r (ap (λ z. b ∷ z) (munch_text d)) in
    rw (e, munch-is d, f, no_word_is (b ∷ t) n) refl
begins_found (begins_word {w} {b} {t} {s} {r} e d q k) =
    let f : take (length (b ∷ s) - length r) (b ∷ s) ≡ b ∷ t = front (b ∷ t) (b ∷ s) r (ap (λ z. b ∷ z) (munch_text d)) in
    rw (e, munch-is d, f, word_is w (b ∷ t) q k) refl
begins_found (begins_number {b} {v} {s} e d h) =
    let k = digits-are d in
    let l : nat_lt (digits_value (b - 48) s) (2 ^ 128) ≡ true = rw k.0 (lt_test v (2 ^ 128) h) in
    rw (digit_is_no_letter b e, e, l, k.1) refl
begins_found (begins_text d) = rw (string-is d) refl
begins_found (begins_sign {g} {s} {r} q e d) =
    subst (λ z. found_at z ≡ Some (items.Mark g, r)) (sym e) (let f = sign_found g r d in rw q at f)

moved : (s : List ℕ) (i j : Item) (q r : List ℕ) → ◌≡◌ {A = Option (Item × List ℕ)} (Some (i, q)) (Some (j, r)) → Stands i s q → Stands j s r
moved s i j q r e h =
    let same : ◌≡◌ {A = Item × List ℕ} (i, q) (j, r) = cc in subst (λ (z : Item × List ℕ). Stands z.0 s z.1) same h

-- a first byte that is that number
at : (b n : ℕ) (s : List ℕ) (i : Item) (r : List ℕ) → (b == n) ≡ true → Stands i (n ∷ s) r → Stands i (b ∷ s) r
at b n s i r e h = subst (λ (z : ℕ). Stands i (z ∷ s) r) (sym (eqb-true b n e)) h

word_stands : (b : ℕ) (s : List ℕ) (i : Item) (r : List ℕ) → is_letter b ≡ true → word (b ∷ s) (munch_rest is_name_byte s) ≡ Some (i, r) → Stands i (b ∷ s) r
word_stands b s i r q e =
    let munch = munch-reads is_name_byte s in
    let f : take (length (b ∷ s) - length (munch_rest is_name_byte s)) (b ∷ s) ≡ b ∷ munch.0 =
    front (b ∷ munch.0) (b ∷ s) (munch_rest is_name_byte s) (ap (λ z. b ∷ z) (munch_text munch.1)) in
    moved (b ∷ s) _ i (munch_rest is_name_byte s) r (rw f at e) (go munch.0 munch.1 (first_spelled WORDS (b ∷ munch.0)) refl)
  where
    go : (t : List ℕ) → MaximalMunch is_name_byte t s (munch_rest is_name_byte s) → (o : Option Sign) → first_spelled WORDS (b ∷ t) ≡ o →
        Stands (word_item o) (b ∷ s) (munch_rest is_name_byte s)
    go t d None k = (named (b ∷ t), (refl, begins_name q d (no_word (b ∷ t) k)))
    go t d (Some w) k = begins_word q d (word_reads (b ∷ t) w k) (spelled_so WORDS (b ∷ t) w k)

number_stands : (b : ℕ) (s : List ℕ) (i : Item) (r : List ℕ) → is_digit b ≡ true → number (b - 48) s ≡ Some (i, r) → Stands i (b ∷ s) r
number_stands b s i r q e =
    tested (nat_lt (digits_value (b - 48) s) (2 ^ 128)) _ _ _ (Stands i (b ∷ s) r) e
    (λ l f. moved (b ∷ s) _ i _ r f (numeral (digits_value (b - 48) s), (refl, begins_number q (digits-read (b - 48) s) (ltb-true _ _ l))))
    (λ l f. cc)

text_stands : (s : List ℕ) (i : Item) (r : List ℕ) (o : Option (List ℕ)) → string_rest inside s ≡ o →
    (◌>>=◌ {B = Item × List ℕ} o (λ r. Some (items.Said kinds.Text, r))) ≡ Some (i, r) → Stands i (34 ∷ s) r
text_stands s i r None is e = cc
text_stands s i r (Some q) is e =
    let h = string-reads inside s q is in moved (34 ∷ s) _ i q r e (quoted h.0, (refl, begins_text h.1))

comment_stands : (s : List ℕ) (i : Item) (r : List ℕ) (o : Option (List ℕ)) → comment_rest false s ≡ o →
    (◌>>=◌ {B = Item × List ℕ} o (λ r. Some (items.Blank, r))) ≡ Some (i, r) → Stands i (40 ∷ 42 ∷ s) r
comment_stands s i r None is e = cc
comment_stands s i r (Some q) is e = moved (40 ∷ 42 ∷ s) _ i q r e (blank_comment (comment-reads false s q is))

paren_stands : (s : List ℕ) (i : Item) (r : List ℕ) → paren s ≡ Some (i, r) → Stands i (40 ∷ s) r
paren_stands [] i r e = moved (40 ∷ []) _ i [] r e (begins_sign {g = signs.Open} refl refl tt)
paren_stands (b ∷ s) i r e =
    tested (b == 42) _ _ _ (Stands i (40 ∷ b ∷ s) r) e
    (λ q f. subst (λ (z : ℕ). Stands i (40 ∷ z ∷ s) r) (sym (eqb-true b 42 q)) (comment_stands s i r (comment_rest false s) refl f))
    (λ q f. moved (40 ∷ b ∷ s) _ i (b ∷ s) r f (begins_sign {g = signs.Open} refl refl q))

sign_begins : (s : List ℕ) (g : Sign) (r : List ℕ) → sign_from SIGNS s ≡ Some (g, r) → Begins (mark g) s r
sign_begins s g r e =
    let k = listed s g r e in
    let is : s ≡ spelling g ++ r = sign_stands SIGNS s g r e in
    begins_sign (listed_is_sign g k) is (listed_ends g r k (subst (λ z. sign_from SIGNS z ≡ Some (g, r)) is e))

other_stands : (s : List ℕ) (i : Item) (r : List ℕ) (o : Option (Sign × List ℕ)) → sign_from SIGNS s ≡ o →
    (◌>>=◌ {B = Item × List ℕ} o (λ x. Some (items.Mark x.0, x.1))) ≡ Some (i, r) → Stands i s r
other_stands s i r None is e = cc
other_stands s i r (Some x) is e = moved s (items.Mark x.0) i x.1 r e (sign_begins s x.0 x.1 is)

-- what is found stands there
pub found_stands : (s : List ℕ) (i : Item) (r : List ℕ) → found_at s ≡ Some (i, r) → Stands i s r
unfolding found_at
found_stands [] i r e = cc
found_stands (b ∷ s) i r e =
    tested (is_letter b) _ _ _ (Stands i (b ∷ s) r) e (λ q f. word_stands b s i r q f)
    (λ _ e. tested (is_digit b) _ _ _ (Stands i (b ∷ s) r) e (λ q f. number_stands b s i r q f)
    (λ _ e. tested (is_space b) _ _ _ (Stands i (b ∷ s) r) e (λ q f. moved (b ∷ s) _ i s r f (blank_space q))
    (λ _ e. tested (b == 34) _ _ _ (Stands i (b ∷ s) r) e (λ q f. at b 34 s i r q (text_stands s i r (string_rest inside s) refl f))
    (λ _ e. tested (b == 40) _ _ _ (Stands i (b ∷ s) r) e (λ q f. at b 40 s i r q (paren_stands s i r f))
    (λ _ f. other_stands (b ∷ s) i r (sign_from SIGNS (b ∷ s)) refl f)))))

pub no_blank : (s : List ℕ) → found_at s ≡ None → (r : List ℕ) → Blank s r → ⊥
no_blank s e r d = let bad : ◌≡◌ {A = Option (Item × List ℕ)} None (Some (items.Blank, r)) = sym e ∙ blank_found d in cc

pub no_token : (s : List ℕ) → found_at s ≡ None → (l : Lexeme) (r : List ℕ) → Begins l s r → ⊥
no_token s e l r d = let bad : ◌≡◌ {A = Option (Item × List ℕ)} None (Some (shape l, r)) = sym e ∙ begins_found d in cc

munch_shrinks : {p : ℕ → Bool} {t s r : List ℕ} → MaximalMunch p t s r → length r ≤ length s
munch_shrinks (munch_end e) = omega arith
munch_shrinks (munch_more e d) = omega (arith, munch_shrinks d)

digits_shrink : {n v : ℕ} {s r : List ℕ} → Digits n s r v → length r ≤ length s
digits_shrink (digits_end e) = omega arith
digits_shrink (digits_more e d) = omega (arith, digits_shrink d)

string_shrinks : {t s r : List ℕ} → InString t s r → length r < length s
string_shrinks string_end = omega arith
string_shrinks (string_plain e d) = omega (arith, string_shrinks d)
string_shrinks (string_escape e d) = omega (arith, string_shrinks d)
string_shrinks (string_hex e f d) = omega (arith, string_shrinks d)

comment_shrinks : {s r : List ℕ} → InComment s r → length r < length s
comment_shrinks comment_end = omega arith
comment_shrinks (comment_more e d) = omega (arith, comment_shrinks d)

spelling_some : (g : Sign) → 0 < length (spelling g)
spelling_some signs.Val = omega arith
spelling_some _ = omega arith

-- each blank and each token takes a byte
pub blank_shrinks : {s r : List ℕ} → Blank s r → length r < length s
blank_shrinks (blank_space e) = omega arith
blank_shrinks (blank_comment d) = omega (arith, comment_shrinks d)

pub begins_shrinks : {l : Lexeme} {s r : List ℕ} → Begins l s r → length r < length s
begins_shrinks (begins_name e d n) = omega (arith, munch_shrinks d)
begins_shrinks (begins_word e d q k) = omega (arith, munch_shrinks d)
begins_shrinks (begins_number e d h) = omega (arith, digits_shrink d)
begins_shrinks (begins_text d) = omega (arith, string_shrinks d)
begins_shrinks (begins_sign {g} {s} {r} q e d) = omega (arith, ap length e, length-append (spelling g) r, spelling_some g)

said_kind : (l : Lexeme) (k : TokenKind) → shape l ≡ items.Said k → kind_of l ≡ k
said_kind (named x) k e = cc
said_kind (numeral x) k e = cc
said_kind (quoted x) k e = cc
said_kind (mark g) k e = cc

-- one more name, number or string
pub covers_said : {script : List ℕ} {ts : List Token} {ls : List Lexeme} {s r : List ℕ} (k : TokenKind) → Covers script ts ls s → Stands (items.Said k) s r →
    (ls : List Lexeme) × Covers script (ts ++ (record { kind = k; from = length script - length s; to = length script - length r } ∷ [])) ls r
covers_said {script} {ts} {ls} {s} {r} k c h = (
  ls ++ (h.0 ∷ []),
  subst (λ (z : TokenKind). Covers script (ts ++ (record { kind = z; from = length script - length s; to = length script - length r } ∷ [])) (ls ++ (h.0 ∷ [])) r)
      (said_kind h.0 k h.1.0) (covers_token c h.1.1),
)
