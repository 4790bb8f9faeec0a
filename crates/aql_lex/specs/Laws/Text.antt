-- Laws on what a token's bytes say.
use Rattle.std.proofs.Common.{ℕ, ◌≡◌, ◌≤◌, ◌<◌, ◌+◌, ◌-◌, ◌*◌, ◌%◌, List, [], ◌∷◌, Bool, true, false, ◌==◌, ◌||◌, nat_lt, if◌then◌else◌, refl, ap, arith}
use Rattle.std.proofs.lemmas.Bool.{eqb-true}
use Rattle.std.proofs.lemmas.Grind.{common_steps}
use Rattle.aql_syntax.specs.Lexis.{is_digit, is_between, is_plain, is_hex, hex_value, InString, string_end, string_plain, string_escape, string_hex}
use Rattle.aql_lex.specs.Texts.{digits_value, within, string_bytes}

plain_parts : (x y z : Bool) → (if x || y then false else z) ≡ true → (x ≡ false) × (y ≡ false)
plain_parts true y z e = cc
plain_parts false true z e = cc
plain_parts false false z e = (refl, refl)

plain_is : (b : ℕ) → is_plain b ≡ true → ((b == 34) ≡ false) × ((b == 92) ≡ false)
plain_is b e = plain_parts (b == 34) (b == 92) (is_between 32 126 b || nat_lt 127 b) e

mark_no_x : (b : ℕ) → (b == 34 || b == 92) ≡ true → (b == 120) ≡ false
mark_no_x b e = go (b == 34) (b == 92) refl refl e
  where
    go : (x y : Bool) → (b == 34) ≡ x → (b == 92) ≡ y → (x || y) ≡ true → (b == 120) ≡ false
    go true y p q e = ap (λ z. z == 120) (eqb-true b 34 p)
    go false true p q e = ap (λ z. z == 120) (eqb-true b 92 q)
    go false false p q e = cc

hex_small : (b : ℕ) → is_hex b ≡ true → hex_value b ≤ 15
hex_small b e = grind (arith, common_steps)

below_256 : (n : ℕ) → n < 256 → n % 256 ≡ n
below_256 n h = omega arith

-- the rest of a string stands for its unescaped bytes
pub unescaped_is : {x s r : List ℕ} → InString x s r → string_bytes within s ≡ x
unescaped_is string_end = refl
unescaped_is (string_plain {b} e d) = let k = plain_is b e in rw (k.0, k.1) (ap (λ z. b ∷ z) (unescaped_is d))
unescaped_is (string_escape {b} e d) = rw (mark_no_x b e) (ap (λ z. b ∷ z) (unescaped_is d))
unescaped_is (string_hex {a} {b} {t} e f d) =
    let x : hex_value a ≤ 15 = hex_small a e in
    let y : hex_value b ≤ 15 = hex_small b f in
    let n : (16 * hex_value a + hex_value b) % 256 ≡ 16 * hex_value a + hex_value b = below_256 (16 * hex_value a + hex_value b) (omega arith) in
    rw (n, unescaped_is d) refl

-- the number only grows
pub digits_grow : (n : ℕ) (s : List ℕ) → n ≤ digits_value n s
digits_grow n [] = omega arith
digits_grow n (b ∷ s) = go (is_digit b) (digits_grow (10 * n + (b - 48)) s)
  where
    go : (t : Bool) → 10 * n + (b - 48) ≤ digits_value (10 * n + (b - 48)) s →
        n ≤ (if t then digits_value (10 * n + (b - 48)) s else n)
    go true h = omega arith
    go false h = omega arith
