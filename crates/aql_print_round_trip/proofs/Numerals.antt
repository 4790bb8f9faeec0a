-- The decimal text of a number is read as that number.
use Rattle.std.proofs.Common.{◌≡◌, ℕ, ◌+◌, ◌-◌, ◌*◌, ◌/◌, ◌%◌, ◌^◌, ◌<◌, ◌≤◌, true, List, [], ◌∷◌, ◌++◌, refl, sym, ap, subst, arith, append_assoc, lit≤}
use Rattle.std.specs.Prelude.{decimal}
use Rattle.std.proofs.lemmas.Bool.{lt-ltb, and_from}
use Rattle.std.proofs.Math.Nat.{div-add-mod, mod-lt}
use Rattle.std.proofs.lemmas.Fmt.{decimal_by_steps_wide}
use Rattle.aql_syntax.specs.Lexis.{Begins, begins_number, numeral, is_digit, Ends, Digits, digits_end, digits_more}

pub digit_byte : (d : ℕ) → d < 10 → is_digit (48 + d) ≡ true
digit_byte d h = and_from _ _ (lt-ltb (48 + d) 58 (omega (arith, h))) (lt-ltb 48 (48 + d + 1) (omega arith))

-- the bytes are a digit and further ones, and digits that go on behind them go on from the number
pub record Spells (n : ℕ) (bytes : List ℕ) : Type 0 where
  pub first : ℕ
  pub more : List ℕ
  pub is : bytes ≡ first ∷ more
  pub digit : is_digit first ≡ true
  pub goes_on : (s r : List ℕ) (v : ℕ) → Digits n s r v → Digits (first - 48) (more ++ s) r v

one : (n : ℕ) → n < 10 → Spells n ((48 + n) ∷ [])
one n h = record {
  first = 48 + n;
  more = [];
  is = refl;
  digit = digit_byte n h;
  goes_on = λ s r v d. subst (λ m. Digits m s r v) (let e : n ≡ (48 + n) - 48 = omega arith in e) d;
}

last : (n : ℕ) (ds : List ℕ) → 10 ≤ n → Spells (n / 10) ds → Spells n (ds ++ ((48 + n % 10) ∷ []))
last n ds h p =
    let small : n % 10 < 10 = mod-lt n (omega arith) in
    let whole : n ≡ 10 * (n / 10) + ((48 + n % 10) - 48) = omega (arith, div-add-mod n 10) in
    record {
      first = p.first;
      more = p.more ++ ((48 + n % 10) ∷ []);
      is = ap (λ l. l ++ ((48 + n % 10) ∷ [])) p.is;
      digit = p.digit;
      goes_on = λ s r v d.
          subst (λ l. Digits (p.first - 48) l r v) (sym (append_assoc p.more ((48 + n % 10) ∷ []) s))
          (p.goes_on ((48 + n % 10) ∷ s) r v (digits_more (digit_byte (n % 10) small) (subst (λ m. Digits m s r v) whole d)));
    }

wide : 2 ^ 128 ≤ 10 ^ 64
wide = lit≤ tt

pub spelled : (n : ℕ) → n < 2 ^ 128 → Spells n (decimal n)
spelled n h = decimal_by_steps_wide Spells one last n (omega (arith, h, wide))

pub begins : (n : ℕ) (r : List ℕ) → n < 2 ^ 128 → Ends is_digit r → Begins (numeral n) (decimal n ++ r) r
begins n r h e =
    let p = spelled n h in
    subst (λ l. Begins (numeral n) (l ++ r) r) (sym p.is) (begins_number p.digit (p.goes_on r r n (digits_end e)) h)
