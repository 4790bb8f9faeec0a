-- The escaped bytes of a string are read as the string.
use Rattle.std.proofs.Common.{◌≡◌, ℕ, suc, ◌+◌, ◌*◌, ◌/◌, ◌%◌, ◌<◌, ◌≤◌, ◌&&◌, Bool, true, false, nat_eq, nat_lt, nat_le, List, [], ◌∷◌, ◌++◌, refl, sym, ap, ◌∙◌, subst, arith, append_assoc, inl, inr, if◌then◌else◌}
use Rattle.std.specs.List.{All, flat_map}
use Rattle.std.proofs.Math.Nat.{div-add-mod, mod-lt}
use Rattle.std.proofs.lemmas.Bool.{cases_lt, lt-ltb, le-ltb, leb-true, eqb-true, and_from, and_left, and_parts, or_left, or_right}
use Rattle.aql_syntax.specs.Lexis.{InString, string_end, string_plain, string_escape, string_hex, is_between, is_digit, is_hex, hex_value}
use Rattle.aql_print.specs.ValueText.{byte_text, hex_digit}
use Rattle.aql_print_round_trip.proofs.Numerals.{digit_byte}

-- a hexadecimal digit, below 10 and from 10 on
low_digit : (d : ℕ) → d < 10 → hex_digit d ≡ 48 + d
low_digit d h = ap (λ b. if b then 48 + d else 87 + d) (lt-ltb d 10 h)

high_digit : (d : ℕ) → 10 ≤ d → hex_digit d ≡ 87 + d
high_digit d h = ap (λ b. if b then 48 + d else 87 + d) (le-ltb d 10 h)

letter_byte : (d : ℕ) → 10 ≤ d → d < 16 → is_between 97 102 (87 + d) ≡ true
letter_byte d l h = and_from _ _ (lt-ltb (87 + d) 103 (omega (arith, h))) (lt-ltb 97 (87 + d + 1) (omega (arith, l)))

no_digit : (d : ℕ) → 10 ≤ d → is_digit (87 + d) ≡ false
no_digit d l = and_left _ _ (le-ltb (87 + d) 58 (omega (arith, l)))

no_capital : (d : ℕ) → 10 ≤ d → is_between 65 70 (87 + d) ≡ false
no_capital d l = and_left _ _ (le-ltb (87 + d) 71 (omega (arith, l)))

hex_byte : (d : ℕ) → d < 16 → is_hex (hex_digit d) ≡ true
hex_byte d h = elim (cases_lt d 10) [
  | inl l ↦ ap is_hex (low_digit d l) ∙ or_left _ _ (or_left _ _ (digit_byte d l))
  | inr l ↦ ap is_hex (high_digit d l) ∙ or_right _ _ (letter_byte d l h)
]

hex_read : (d : ℕ) → d < 16 → hex_value (hex_digit d) ≡ d
hex_read d h = elim (cases_lt d 10) [
  | inl l ↦ ap hex_value (low_digit d l) ∙ rw (digit_byte d l) (omega arith)
  | inr l ↦ ap hex_value (high_digit d l) ∙ rw (no_digit d l, no_capital d l) (omega arith)
]

-- one byte more
byte_read : (b : ℕ) (t s r : List ℕ) → b < 256 → InString t s r → InString (b ∷ t) (byte_text b ++ s) r
byte_read b t s r h d = go (nat_eq b 34) (nat_eq b 92) (nat_le 32 b && nat_lt b 127) refl refl refl
  where
    go : (q e p : Bool) → nat_eq b 34 ≡ q → nat_eq b 92 ≡ e → (nat_le 32 b && nat_lt b 127) ≡ p →
        InString (b ∷ t)
        ((if q then 92 ∷ 34 ∷ [] else if e then 92 ∷ 92 ∷ [] else if p then b ∷ [] else 92 ∷ 120 ∷ hex_digit (b / 16) ∷ hex_digit (b % 16) ∷ []) ++ s) r
    go true e p f g k = subst (λ x. InString (b ∷ t) (92 ∷ x ∷ s) r) (eqb-true b 34 f) (string_escape (or_left _ _ f) d)
    go false true p f g k = subst (λ x. InString (b ∷ t) (92 ∷ x ∷ s) r) (eqb-true b 92 g) (string_escape (or_right _ _ g) d)
    go false false true f g k =
        let range = and_parts (nat_le 32 b) (nat_lt b 127) k in
        let inside : is_between 32 126 b ≡ true = and_from _ _ range.1 (lt-ltb 32 (b + 1) (omega (arith, leb-true 32 b range.0))) in
        string_plain (rw (f, g) (or_left _ _ inside)) d
    go false false false f g k =
        let whole = div-add-mod b 16 in
        let small : b % 16 < 16 = mod-lt b (omega arith) in
        let front : b / 16 < 16 = omega (arith, whole, h) in
        let value : 16 * hex_value (hex_digit (b / 16)) + hex_value (hex_digit (b % 16)) ≡ b = rw (hex_read (b / 16) front, hex_read (b % 16) small) whole in
        subst (λ x. InString (x ∷ t) (92 ∷ 120 ∷ hex_digit (b / 16) ∷ hex_digit (b % 16) ∷ s) r) value (string_hex (hex_byte (b / 16) front) (hex_byte (b % 16) small) d)

-- the bytes up to the closing quote
pub in_string : (s : List ℕ) → All (λ b. b < 256) s → (r : List ℕ) → InString s ((flat_map byte_text s ++ 34 ∷ []) ++ r) r
in_string [] h r = string_end
in_string (b ∷ s) h r =
    subst (λ l. InString (b ∷ s) l r)
    (sym (ap (λ l. l ++ r) (append_assoc (byte_text b) (flat_map byte_text s) (34 ∷ [])) ∙ append_assoc (byte_text b) (flat_map byte_text s ++ 34 ∷ []) r))
    (byte_read b s ((flat_map byte_text s ++ 34 ∷ []) ++ r) r (h 0 0 (omega arith)) (in_string s (λ k d l. h (suc k) d (omega (arith, l))) r))
