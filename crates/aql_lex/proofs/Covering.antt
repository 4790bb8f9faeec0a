-- Blanks and tokens from one rest of a script to another.
use Rattle.std.proofs.Common.{ℕ, ◌≡◌, ◌≤◌, ◌+◌, ◌-◌, ◌*◌, List, [], ◌∷◌, ◌++◌, refl, sym, ap, ◌∙◌, subst, arith, length, take, drop, length-append, append_assoc}
use Rattle.std.proofs.Math.Seq.{drop-append_seam}
use Rattle.aql_syntax.specs.declared.token.Token.{Token}
use Rattle.aql_syntax.specs.Signs.{spelling}
use Rattle.aql_syntax.specs.Lexis.{Digits, digits_end, digits_more, InString, string_end, string_plain, string_escape, string_hex, InComment, comment_end, comment_more, Blank, blank_space, blank_comment, Lexeme, Begins, begins_name, begins_word, begins_number, begins_text, begins_sign, token_between, Covers, covers_none, covers_blank, covers_token}
use Rattle.aql_lex.specs.Texts.{digits_value, Says, SpansAscend, EachSays}
use Rattle.aql_lex.specs.Lexed.{SpansAndTexts}
use Rattle.aql_lex.proofs.Fronts.{munch_text, front, blank_shrinks, begins_shrinks}

-- Goes script ts ls s r: from the rest s to the rest r stand blanks and these tokens, which say these lexemes
pub data Goes (script : List ℕ) : List Token → List Lexeme → List ℕ → List ℕ → Type 0 where
  goes_none : {s : List ℕ} → Goes script [] [] s s
  goes_blank : {ts : List Token} {ls : List Lexeme} {s s' r : List ℕ} → Blank s s' → Goes script ts ls s' r → Goes script ts ls s r
  goes_token : {ts : List Token} {ls : List Lexeme} {l : Lexeme} {s s' r : List ℕ} → Begins l s s' → Goes script ts ls s' r →
      Goes script (token_between script l s s' ∷ ts) (l ∷ ls) s r

blank_after : {script : List ℕ} {ts : List Token} {ls : List Lexeme} {s r r' : List ℕ} → Goes script ts ls s r → Blank r r' → Goes script ts ls s r'
blank_after goes_none b = goes_blank b goes_none
blank_after (goes_blank c g) b = goes_blank c (blank_after g b)
blank_after (goes_token c g) b = goes_token c (blank_after g b)

token_after : {script : List ℕ} {ts : List Token} {ls : List Lexeme} {l : Lexeme} {s r r' : List ℕ} → Goes script ts ls s r → Begins l r r' →
    Goes script (ts ++ token_between script l r r' ∷ []) (ls ++ l ∷ []) s r'
token_after goes_none b = goes_token b goes_none
token_after (goes_blank c g) b = goes_blank c (token_after g b)
token_after (goes_token c g) b = goes_token c (token_after g b)

pub goes : {script : List ℕ} {ts : List Token} {ls : List Lexeme} {r : List ℕ} → Covers script ts ls r → Goes script ts ls script r
goes covers_none = goes_none
goes (covers_blank c b) = blank_after (goes c) b
goes (covers_token c b) = token_after (goes c) b

-- the bytes of a token, which say it, before its rest
pub record HasText (l : Lexeme) (s r : List ℕ) : Type 0 where
  pub text : List ℕ
  pub is : s ≡ text ++ r
  pub says : Says text l

digits_text : {n v : ℕ} {s r : List ℕ} → Digits n s r v → (t : List ℕ) × ((s ≡ t ++ r) × (digits_value n t ≡ v))
digits_text (digits_end e) = ([], (refl, refl))
digits_text (digits_more {n} {v} {b} e d) = let h = digits_text d in (b ∷ h.0, (ap (λ z. b ∷ z) h.1.0, rw e h.1.1))

string_text : {x s r : List ℕ} → InString x s r → (t : List ℕ) × ((s ≡ t ++ r) × InString x t [])
string_text string_end = (34 ∷ [], (refl, string_end))
string_text (string_plain {b} e d) = let h = string_text d in (b ∷ h.0, (ap (λ z. b ∷ z) h.1.0, string_plain e h.1.1))
string_text (string_escape {b} e d) = let h = string_text d in (92 ∷ b ∷ h.0, (ap (λ z. 92 ∷ b ∷ z) h.1.0, string_escape e h.1.1))
string_text (string_hex {a} {b} e f d) =
    let h = string_text d in (92 ∷ 120 ∷ a ∷ b ∷ h.0, (ap (λ z. 92 ∷ 120 ∷ a ∷ b ∷ z) h.1.0, string_hex e f h.1.1))

pub has_text : {l : Lexeme} {s r : List ℕ} → Begins l s r → HasText l s r
has_text (begins_name {b} {t} e d n) = record { text = b ∷ t; is = ap (λ z. b ∷ z) (munch_text d); says = refl }
has_text (begins_word {w} {b} {t} e d q k) = record { text = b ∷ t; is = ap (λ z. b ∷ z) (munch_text d); says = k }
has_text (begins_number {b} {v} e d h) =
    let k = digits_text d in
    record {
      text = b ∷ k.0;
      is = ap (λ z. b ∷ z) k.1.0;
      says = (rw e (let z : 10 * 0 + (b - 48) ≡ b - 48 = omega arith in rw z k.1.1), h);
    }
has_text (begins_text d) =
    let k = string_text d in
    record { text = 34 ∷ k.0; is = ap (λ z. 34 ∷ z) k.1.0; says = (refl, k.1.1) }
has_text (begins_sign {g} q e d) = record { text = spelling g; is = e; says = refl }

comment_text : {s r : List ℕ} → InComment s r → (t : List ℕ) × (s ≡ t ++ r)
comment_text comment_end = (42 ∷ 41 ∷ [], refl)
comment_text (comment_more {b} e d) = let h = comment_text d in (b ∷ h.0, ap (λ z. b ∷ z) h.1)

blank_text : {s r : List ℕ} → Blank s r → (t : List ℕ) × (s ≡ t ++ r)
blank_text (blank_space {b} e) = (b ∷ [], refl)
blank_text (blank_comment d) = let h = comment_text d in (40 ∷ 42 ∷ h.0, ap (λ z. 40 ∷ 42 ∷ z) h.1)

-- the bytes before a rest, and some more
joined : (script before s t r : List ℕ) → script ≡ before ++ s → s ≡ t ++ r → script ≡ (before ++ t) ++ r
joined script before s t r e f = e ∙ ap (λ z. before ++ z) f ∙ sym (append_assoc before t r)

-- the bytes of the script between two rests
between : (script before s t r : List ℕ) → script ≡ before ++ s → s ≡ t ++ r →
    take ((length script - length r) - (length script - length s)) (drop (length script - length s) script) ≡ t
between script before s t r e f =
    let a : length script - length s ≡ length before = omega (arith, ap length e, length-append before s) in
    let b : (length script - length r) - length before ≡ length s - length r =
    omega (arith, ap length e, length-append before s, ap length f, length-append t r) in
    rw (a, b)
    (let d : drop (length before) script ≡ s = subst (λ z. drop (length before) z ≡ s) (sym e) (drop-append_seam before s) in
    rw d (front t s r f))

-- the tokens between two rests say their lexemes
each_says : {script : List ℕ} {ts : List Token} {ls : List Lexeme} {s r : List ℕ} → Goes script ts ls s r → (before : List ℕ) → script ≡ before ++ s → EachSays script ts ls
each_says goes_none before e = tt
each_says {script} (goes_blank {s = s} {s' = s'} b g) before e =
    let t = blank_text b in each_says g (before ++ t.0) (joined script before s t.0 s' e t.1)
each_says {script} (goes_token {l = l} {s = s} {s' = s'} b g) before e =
    let t = has_text b in (
      refl,
      subst (λ z. Says z l) (sym (between script before s t.text s' e t.is)) t.says,
      each_says g (before ++ t.text) (joined script before s t.text s' e t.is),
    )

-- and their spans ascend
spans_ascend : {script : List ℕ} {ts : List Token} {ls : List Lexeme} {s r : List ℕ} → Goes script ts ls s r → (n : ℕ) → n + length s ≤ length script →
    SpansAscend n ts (length script)
spans_ascend goes_none n h = omega arith
spans_ascend (goes_blank b g) n h = spans_ascend g n (omega (arith, blank_shrinks b))
spans_ascend {script} (goes_token {s = s} {s' = s'} b g) n h =
    (omega arith, omega (arith, begins_shrinks b), spans_ascend g (length script - length s') (omega (arith, begins_shrinks b)))

pub spans_and_texts : SpansAndTexts
spans_and_texts script ts ls c = (spans_ascend (goes c) 0 (omega arith), each_says (goes c) [] refl)
