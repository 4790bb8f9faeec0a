-- The tokens and blanks of a value's text.
use Rattle.std.proofs.Common.{◌≡◌, ℕ, nat_lt, suc, ◌+◌, ◌^◌, ◌<◌, true, false, List, [], ◌∷◌, ◌++◌, map, refl, sym, ◌∙◌, subst, arith, append_assoc, append-nil}
use Rattle.std.specs.Prelude.{decimal}
use Rattle.std.specs.List.{All}
use Rattle.std.proofs.lemmas.Bool.{ltb-true, and_parts, ne_eqb}
use Rattle.aql_value.specs.Datum as datum
use Rattle.aql_value.specs.Datum.{Datum, natural, truth, tuple, set, array, Data, nil, cons}
use Rattle.aql_value.specs.Valid.{IsValue, AreValues}
use Rattle.aql_syntax.specs.declared.sign.Sign.{Sign}
use Rattle.aql_syntax.specs.declared.sign.Sign.TheVariants as signs
use Rattle.aql_syntax.specs.declared.token.Token.{Token}
use Rattle.aql_syntax.specs.Signs.{spelling, is_word, joins}
use Rattle.aql_syntax.specs.Lexis.{Lexeme, numeral, mark, is_digit, is_name_byte, Ends, munch_end, munch_more, Blank, blank_space, Begins, begins_word, begins_text, begins_sign, token_between, Covers, covers_blank, covers_token}
use Rattle.aql_print.specs.Joined.{after, join_texts}
use Rattle.aql_print.specs.ValueText.{text, texts}
use Rattle.aql_print_round_trip.proofs.Said.{said, said_list, said_after, said_numbers}
use Rattle.aql_print_round_trip.proofs.Numerals.{spelled, begins}
use Rattle.aql_print_round_trip.proofs.Strings.{in_string}

-- Spans s ls r: s is blanks and tokens that say these lexemes, and then r
pub data Spans : List ℕ → List Lexeme → List ℕ → Type 0 where
  spans_end : {r : List ℕ} → Spans r [] r
  spans_blank : {s t r : List ℕ} {ls : List Lexeme} → Blank s t → Spans t ls r → Spans s ls r
  spans_token : {s t r : List ℕ} {l : Lexeme} {ls : List Lexeme} → Begins l s t → Spans t ls r → Spans s (l ∷ ls) r

-- they cover a script up to r, where the bytes before s are covered
pub covers : {s r : List ℕ} {ls : List Lexeme} → Spans s ls r → (script : List ℕ) (ts : List Token) (ms : List Lexeme) → Covers script ts ms s →
    (us : List Token) × Covers script us (ms ++ ls) r
covers (spans_end {r}) script ts ms c = (ts, subst (λ l. Covers script ts l r) (sym (append-nil ms)) c)
covers (spans_blank b d) script ts ms c = covers d script ts ms (covers_blank c b)
covers (spans_token {s} {t} {r} {l} {ls} b d) script ts ms c =
    let rest = covers d script (ts ++ token_between script l s t ∷ []) (ms ++ l ∷ []) (covers_token c b) in
    (rest.0, subst (λ k. Covers script rest.0 k r) (append_assoc ms (l ∷ []) ls) rest.1)

-- neither a name nor a number goes on
pub record Separate (r : List ℕ) : Type 0 where
  pub word : Ends is_name_byte r
  pub digit : Ends is_digit r

-- a sign before bytes that do not make it a longer one
sign : (g : Sign) → is_word g ≡ false → (r t : List ℕ) (ls : List Lexeme) → Ends (joins g) r → Spans r ls t → Spans (spelling g ++ r) (mark g ∷ ls) t
sign g n r t ls e d = spans_token (begins_sign n refl e) d

-- a sign that no byte makes longer
pub bracket : (g : Sign) → is_word g ≡ false → ((b : ℕ) → joins g b ≡ false) → (r t : List ℕ) (ls : List Lexeme) → Spans r ls t → Spans (spelling g ++ r) (mark g ∷ ls) t
bracket g n h r t ls d = sign g n r t ls (quiet r) d
  where
    quiet : (s : List ℕ) → Ends (joins g) s
    quiet [] = tt
    quiet (b ∷ s) = h b

comma : (r t : List ℕ) (ls : List Lexeme) → Spans r ls t → Spans (44 ∷ r) (mark signs.Comma ∷ ls) t
comma = bracket signs.Comma refl (λ b. refl)

blank : (r t : List ℕ) (ls : List Lexeme) → Spans r ls t → Spans (32 ∷ r) ls t
blank r t ls d = spans_blank (blank_space refl) d

-- no value's text begins with a star
no_star : (v : Datum) → IsValue v → (r : List ℕ) → Ends (joins signs.Open) (text v ++ r)
no_star (natural n) h r =
    let p = spelled n h in
    let from : 48 < p.first + 1 = ltb-true 48 (p.first + 1) (and_parts (nat_lt p.first (57 + 1)) (nat_lt 48 (p.first + 1)) p.digit).1 in
    subst (λ l. Ends (joins signs.Open) (l ++ r)) (sym p.is) (ne_eqb p.first 42 (λ e. omega (arith, e, from)))
no_star (truth true) h r = refl
no_star (truth false) h r = refl
no_star (datum.text s) h r = refl
no_star (tuple vs) h r = refl
no_star (set vs) h r = refl
no_star (array ds vs) h r = refl

regroup : (a b c r : List ℕ) → ((a ++ b) ++ c) ++ r ≡ a ++ (b ++ (c ++ r))
regroup a b c r = append_assoc (a ++ b) c r ∙ append_assoc a b (c ++ r)

-- the texts behind the first, and then a separator
separate_after : (vs : Data) (r : List ℕ) → Separate r → Separate (after (44 ∷ 32 ∷ []) (texts vs) ++ r)
separate_after nil r s = s
separate_after (cons v vs) r s = record { word = refl; digit = refl }

separate_numbers : (ds : List ℕ) (r : List ℕ) → Separate r → Separate (after (44 ∷ []) (map decimal ds) ++ r)
separate_numbers [] r s = s
separate_numbers (d ∷ ds) r s = record { word = refl; digit = refl }

number : (n : ℕ) → n < 2 ^ 128 → (r t : List ℕ) (ls : List Lexeme) → Separate r → Spans r ls t → Spans (decimal n ++ r) (numeral n ∷ ls) t
number n h r t ls s d = spans_token (begins n r h s.digit) d

-- dimensions behind the first
numbers_spans : (ds : List ℕ) → All (λ d. d < 2 ^ 128) ds → (r t : List ℕ) (ls : List Lexeme) → Separate r → Spans r ls t →
    Spans (after (44 ∷ []) (map decimal ds) ++ r) (said_numbers ds ls) t
numbers_spans [] h r t ls s d = d
numbers_spans (n ∷ ns) h r t ls s d =
    let others = after (44 ∷ []) (map decimal ns) in
    subst (λ l. Spans (44 ∷ l) (said_numbers (n ∷ ns) ls) t) (sym (append_assoc (decimal n) others r))
    (comma _ t _ (number n (h 0 0 (omega arith)) (others ++ r) t _ (separate_numbers ns r s)
    (numbers_spans ns (λ k e l. h (suc k) e (omega (arith, l))) r t ls s d)))

mutual
  -- a value's text before what is no part of a name or a number
  pub spans : (v : Datum) → IsValue v → (r t : List ℕ) (ls : List Lexeme) → Separate r → Spans r ls t → Spans (text v ++ r) (said v ls) t
  spans (natural n) h r t ls s d = number n h r t ls s d
  spans (truth true) h r t ls s d = spans_token (begins_word {w = signs.True} refl (munch_more refl (munch_more refl (munch_more refl (munch_end s.word)))) refl refl) d
  spans (truth false) h r t ls s d =
      spans_token (begins_word {w = signs.False} refl (munch_more refl (munch_more refl (munch_more refl (munch_more refl (munch_end s.word))))) refl refl) d
  spans (datum.text b) h r t ls s d = spans_token (begins_text (in_string b h r)) d
  spans (tuple nil) h r t ls s d = absurd (omega (arith, h.0))
  spans (tuple (cons v vs)) h r t ls s d =
      let others = after (44 ∷ 32 ∷ []) (texts vs) in
      let ends : Separate (41 ∷ r) = record { word = refl; digit = refl } in
      subst (λ l. Spans (40 ∷ l) (said (tuple (cons v vs)) ls) t) (sym (regroup (text v) others (41 ∷ []) r))
      (sign signs.Open refl (text v ++ (others ++ 41 ∷ r)) t _ (no_star v h.1.0 (others ++ 41 ∷ r))
      (spans v h.1.0 (others ++ 41 ∷ r) t _ (separate_after vs (41 ∷ r) ends)
      (spans_after vs h.1.1 (41 ∷ r) t _ ends (bracket signs.Close refl (λ b. refl) r t ls d))))
  spans (set nil) h r t ls s d = bracket signs.OpenBrace refl (λ b. refl) (125 ∷ r) t _ (bracket signs.CloseBrace refl (λ b. refl) r t ls d)
  spans (set (cons v vs)) h r t ls s d =
      let others = after (44 ∷ 32 ∷ []) (texts vs) in
      let ends : Separate (125 ∷ r) = record { word = refl; digit = refl } in
      subst (λ l. Spans (123 ∷ l) (said (set (cons v vs)) ls) t) (sym (regroup (text v) others (125 ∷ []) r))
      (bracket signs.OpenBrace refl (λ b. refl) (text v ++ (others ++ 125 ∷ r)) t _
      (spans v h.1.0 (others ++ 125 ∷ r) t _ (separate_after vs (125 ∷ r) ends)
      (spans_after vs h.1.1 (125 ∷ r) t _ ends (bracket signs.CloseBrace refl (λ b. refl) r t ls d))))
  spans (array [] vs) h r t ls s d = absurd (omega (arith, h.1.some))
  spans (array (n ∷ ns) vs) h r t ls s d =
      let others = after (44 ∷ []) (map decimal ns) in
      let behind = (join_texts (44 ∷ 32 ∷ []) (texts vs) ++ 93 ∷ 93 ∷ []) ++ r in
      let ends : Separate (59 ∷ 32 ∷ behind) = record { word = refl; digit = refl } in
      subst (λ l. Spans (91 ∷ 91 ∷ l) (said (array (n ∷ ns) vs) ls) t) (sym (regroup (decimal n) others (59 ∷ 32 ∷ (join_texts (44 ∷ 32 ∷ []) (texts vs) ++ 93 ∷ 93 ∷ [])) r))
      (bracket signs.OpenBracket refl (λ b. refl) (91 ∷ (decimal n ++ (others ++ 59 ∷ 32 ∷ behind))) t _
      (bracket signs.OpenBracket refl (λ b. refl) (decimal n ++ (others ++ 59 ∷ 32 ∷ behind)) t _
      (number n (h.0 0 0 (omega arith)) (others ++ 59 ∷ 32 ∷ behind) t _ (separate_numbers ns (59 ∷ 32 ∷ behind) ends)
      (numbers_spans ns (λ k e l. h.0 (suc k) e (omega (arith, l))) (59 ∷ 32 ∷ behind) t _ ends
      (bracket signs.Semicolon refl (λ b. refl) (32 ∷ behind) t _ (blank behind t _ (spans_cells vs h.2 r t ls d)))))))

  -- the texts behind the first
  spans_after : (vs : Data) → AreValues vs → (r t : List ℕ) (ls : List Lexeme) → Separate r → Spans r ls t → Spans (after (44 ∷ 32 ∷ []) (texts vs) ++ r) (said_after vs ls) t
  spans_after nil h r t ls s d = d
  spans_after (cons w vs) h r t ls s d =
      let others = after (44 ∷ 32 ∷ []) (texts vs) in
      subst (λ l. Spans (44 ∷ 32 ∷ l) (said_after (cons w vs) ls) t) (sym (append_assoc (text w) others r))
      (comma (32 ∷ (text w ++ (others ++ r))) t _ (blank (text w ++ (others ++ r)) t _
      (spans w h.0 (others ++ r) t _ (separate_after vs r s) (spans_after vs h.1 r t ls s d))))

  -- the cells of an array, and its closing brackets
  spans_cells : (vs : Data) → AreValues vs → (r t : List ℕ) (ls : List Lexeme) → Spans r ls t →
      Spans ((join_texts (44 ∷ 32 ∷ []) (texts vs) ++ 93 ∷ 93 ∷ []) ++ r) (said_list vs (mark signs.CloseBracket ∷ mark signs.CloseBracket ∷ ls)) t
  spans_cells nil h r t ls d = bracket signs.CloseBracket refl (λ b. refl) (93 ∷ r) t _ (bracket signs.CloseBracket refl (λ b. refl) r t ls d)
  spans_cells (cons v vs) h r t ls d =
      let others = after (44 ∷ 32 ∷ []) (texts vs) in
      let ends : Separate (93 ∷ 93 ∷ r) = record { word = refl; digit = refl } in
      subst (λ l. Spans l (said_list (cons v vs) (mark signs.CloseBracket ∷ mark signs.CloseBracket ∷ ls)) t) (sym (regroup (text v) others (93 ∷ 93 ∷ []) r))
      (spans v h.0 (others ++ 93 ∷ 93 ∷ r) t _ (separate_after vs (93 ∷ 93 ∷ r) ends)
      (spans_after vs h.1 (93 ∷ 93 ∷ r) t _ ends
      (bracket signs.CloseBracket refl (λ b. refl) (93 ∷ r) t _ (bracket signs.CloseBracket refl (λ b. refl) r t ls d))))
