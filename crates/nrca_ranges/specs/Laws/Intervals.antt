-- What follows from the definitions of `Intervals`: what operations make of numbers, of lists of lists and of sums.
use Rattle.std.proofs.Common.{◌≡◌, ℕ, zero, suc, ◌+◌, ◌*◌, ◌-◌, ◌/◌, ◌%◌, ◌<◌, ◌≤◌, ◌^◌, Bool, true, false, cond, nat_lt, nat_eq, sum, List, [], ◌∷◌, length, Some, None, refl, sym, ap, arith, length-append, if◌then◌else◌, inl, inr}
use Rattle.std.proofs.lemmas.Bool.{lt-ltb, ltb-true, ltb-false, eqb-true, cases_Bool, and_parts}
use Rattle.std.proofs.lemmas.List.Sums.{sum_by-cons}
use Rattle.std.proofs.lemmas.Nat.{mul-le}
use Rattle.std.proofs.lemmas.Option.{same_Some}
use Rattle.std.proofs.Math.Nat.{div-le_self}
use Rattle.aql_value.specs.declared.ops.ArithOp.{ArithOp}
use Rattle.aql_value.specs.declared.ops.ArithOp.TheVariants.{Add, Monus, Mul, Quotient, Remainder}
use Rattle.aql_value.specs.Ops.{arith_by}
use Rattle.aql_value.specs.Lists.{Every}
use Rattle.aql_value.specs.Laws.Lists.{Every-impl}
use Rattle.aql_value.specs.Partial.{concat}
use Rattle.aql_value.specs.Limits.{saturate}
use Rattle.nrca_rule_laws.specs.Laws.Spans.{fits-is}
use Rattle.nrca_ranges.specs.declared.interval.Interval.{Interval}
use Rattle.nrca_ranges.specs.Bounds.{IsIn}
use Rattle.nrca_ranges.specs.Intervals.{is_end, before, least_rest, arith_interval, always_fits, is_below}

-- an upper end that is one is below 2^128-1
pub end-is : (h : ℕ) → is_end h ≡ true → h < 2 ^ 128 - 1
end-is h e = ltb-true h (2 ^ 128 - 1) e

-- what is below a number of an upper end is within the end before
pub before-is : (h n j : ℕ) → (h < 2 ^ 128 - 1 → n ≤ h) → j < n → before h < 2 ^ 128 - 1 → j ≤ before h
before-is h n j u l = go (is_end h) refl
  where
    go : (t : Bool) → is_end h ≡ t → (if t then h - 1 else h) < 2 ^ 128 - 1 → j ≤ (if t then h - 1 else h)
    go true e m = omega (arith, l, u (end-is h e))
    go false e m = absurd (omega (arith, m, ltb-false h (2 ^ 128 - 1) e))

-- a quotient and a remainder are by a number other than 0
divides-is : (n q k : ℕ) → cond (nat_eq n 0) None (Some q) ≡ Some k → (1 ≤ n) × (k ≡ q)
divides-is n q k e = go (nat_eq n 0) refl e
  where
    go : (b : Bool) → nat_eq n 0 ≡ b → cond b None (Some q) ≡ Some k → (1 ≤ n) × (k ≡ q)
    go true z h = cc
    go false z h = (above n z, sym (same_Some q k h))
      where
        above : (n : ℕ) → nat_eq n 0 ≡ false → 1 ≤ n
        above zero z = cc
        above (suc n) z = omega arith

-- a product of numbers is at most that of the upper ends, where that one stays below 2^128-1
pub high-product : (g h m n : ℕ) → g * h < 2 ^ 128 - 1 → (g < 2 ^ 128 - 1 → m ≤ g) → (h < 2 ^ 128 - 1 → n ≤ h) → m * n ≤ g * h
high-product zero h m n l x y = let z : m ≡ 0 = omega (arith, x (omega arith)) in omega (arith, ap (λ q. q * n) z)
high-product (suc g) zero m n l x y = let z : n ≡ 0 = omega (arith, y (omega arith)) in omega (arith, ap (λ q. m * q) z)
high-product (suc g) (suc h) m n l x y =
    let p : 1 * suc h ≤ suc g * suc h = mul-le 1 (suc h) (suc g) (suc h) (omega arith) (omega arith) in
    let q : suc g * 1 ≤ suc g * suc h = mul-le (suc g) 1 (suc g) (suc h) (omega arith) (omega arith) in
    mul-le m n (suc g) (suc h) (x (omega (arith, l, q))) (y (omega (arith, l, p)))

-- the least that a difference may be
least-is : (low high m n : ℕ) → low ≤ m → (high < 2 ^ 128 - 1 → n ≤ high) → least_rest low high ≤ m - n
least-is low high m n l u = go (is_end high) refl
  where
    go : (t : Bool) → is_end high ≡ t → (if t then low - high else 0) ≤ m - n
    go true e = omega (arith, l, u (end-is high e))
    go false e = omega arith

rem-lt : (m n : ℕ) → 1 ≤ n → m % n < n
rem-lt m zero l = absurd (omega (arith, l))
rem-lt m (suc n) l = omega arith

rem-le : (m n : ℕ) → 1 ≤ n → m % n ≤ m
rem-le m zero l = absurd (omega (arith, l))
rem-le m (suc n) l = omega arith

-- what an operation makes of a number of each interval is in the interval of the two
pub arith-in : (op : ArithOp) (a b : Interval) (m n k : ℕ) → IsIn a m → IsIn b n → arith_by op m n ≡ Some k → IsIn (arith_interval op a b) k
arith-in Add a b m n k x y h = let z = fits-is (m + n) k h in (omega (arith, z, x.0, y.0), λ l. omega (arith, z, l, x.1, y.1))
arith-in Monus a b m n k x y h =
    let z = same_Some (m - n) k h in
    (omega (arith, z, least-is a.low b.high m n x.0 y.1), λ l. omega (arith, z, x.1 l))
arith-in Mul a b m n k x y h =
    let z = fits-is (m * n) k h in
    (omega (arith, z, mul-le a.low b.low m n x.0 y.0), λ l. omega (arith, z, l, high-product a.high b.high m n (omega (arith, l)) x.1 y.1))
arith-in Quotient a b m n k x y h =
    let z = divides-is n (m / n) k h in
    (omega arith, λ l. omega (arith, z.1, div-le_self m n, x.1 l))
arith-in Remainder a b m n k x y h =
    let z = divides-is n (m % n) k h in
    (omega arith, λ l. least (rem-le m n z.0) (rem-lt m n z.0) z.1 l)
  where
    least : m % n ≤ m → m % n < n → k ≡ m % n → (arith_interval Remainder a b).high < 2 ^ 128 - 1 → k ≤ (arith_interval Remainder a b).high
    least p q z l = at (is_end a.high) refl (is_end (before b.high)) refl
      where
        at : (s : Bool) → is_end a.high ≡ s → (t : Bool) → is_end (before b.high) ≡ t → k ≤ (arith_interval Remainder a b).high
        at true e true f = omega (arith, z, p, x.1 (end-is a.high e), before-is b.high n (m % n) y.1 q (end-is (before b.high) f))
        at true e false f = omega (arith, z, p, x.1 (end-is a.high e), ltb-false (before b.high) (2 ^ 128 - 1) f, end-is a.high e)
        at false e true f = omega (arith, z, ltb-false a.high (2 ^ 128 - 1) e, before-is b.high n (m % n) y.1 q (end-is (before b.high) f), end-is (before b.high) f)
        at false e false f = absurd (omega (arith, l, ltb-false a.high (2 ^ 128 - 1) e, ltb-false (before b.high) (2 ^ 128 - 1) f))

-- a successor is not 0
not-zero : (n : ℕ) → 1 ≤ n → nat_eq n 0 ≡ false
not-zero n l = elim (cases_Bool (nat_eq n 0)) [ inl e ↦ absurd (omega (arith, eqb-true n 0 e, l)) | inr e ↦ e ]

-- an upper end that stays below 2^128-1 where it stops there
pub saturated-is : (n : ℕ) → is_end (saturate n) ≡ true → n < 2 ^ 128 - 1
saturated-is n e = omega (arith, end-is (saturate n) e)

-- an operation that always fits has a value at each number of the two intervals
pub fits-there : (op : ArithOp) (a b : Interval) (m n : ℕ) → always_fits op a b ≡ true → IsIn a m → IsIn b n → (k : ℕ) × (arith_by op m n ≡ Some k)
fits-there Add a b m n e x y =
    let l = saturated-is (a.high + b.high) e in
    (m + n, rw (lt-ltb (m + n) (2 ^ 128) (omega (arith, l, x.1, y.1))) refl)
fits-there Monus a b m n e x y = (m - n, refl)
fits-there Mul a b m n e x y =
    let l = saturated-is (a.high * b.high) e in
    (m * n, rw (lt-ltb (m * n) (2 ^ 128) (omega (arith, l, high-product a.high b.high m n l x.1 y.1))) refl)
fits-there Quotient a b m n e x y = (m / n, rw (not-zero n (omega (arith, ltb-true 0 b.low e, y.0))) refl)
fits-there Remainder a b m n e x y = (m % n, rw (not-zero n (omega (arith, ltb-true 0 b.low e, y.0))) refl)

-- numbers of an interval below another are below its numbers
pub below-is : (x d : Interval) (m n : ℕ) → is_below x d ≡ true → IsIn x m → IsIn d n → m < n
below-is x d m n e h k =
    let p = and_parts (is_end x.high) (nat_lt x.high d.low) e in
    omega (arith, h.1 (end-is x.high p.0), ltb-true x.high d.low p.1, k.0)

-- lists, no one of them longer than h, one after another
joined-length : {A : Type 0} (h : ℕ) (xss : List (List A)) → Every (λ xs. length xs ≤ h) xss → length (concat xss) ≤ length xss * h
joined-length h [] k = omega arith
joined-length h (xs ∷ xss) k = omega (arith, length-append xs (concat xss), k.0, joined-length h xss k.1, mul-suc h (length xss))
  where
    mul-suc : (h n : ℕ) → suc n * h ≡ h + n * h
    mul-suc h n = omega arith

-- the same where the product of the upper ends stays below 2^128-1
pub joined-most : {A : Type 0} (g h : ℕ) (xss : List (List A)) → g * h < 2 ^ 128 - 1 → (g < 2 ^ 128 - 1 → length xss ≤ g) → Every (λ xs. h < 2 ^ 128 - 1 → length xs ≤ h) xss → length (concat xss) ≤ g * h
joined-most zero h [] l k e = omega arith
joined-most zero h (xs ∷ xss) l k e = absurd (omega (arith, k (omega arith)))
joined-most (suc g) h xss l k e =
    let p : 1 * h ≤ suc g * h = mul-le 1 h (suc g) h (omega arith) (omega arith) in
    let b : h < 2 ^ 128 - 1 = omega (arith, l, p) in
    omega (arith, joined-length h xss (Every-impl (λ xs. h < 2 ^ 128 - 1 → length xs ≤ h) (λ xs. length xs ≤ h) (λ xs f. f b) xss e), high-product (suc g) h (length xss) h l k (λ m. omega arith))

-- a sum of numbers, each from l to h
pub sum-least : (l : ℕ) (ns : List ℕ) → Every (λ n. l ≤ n) ns → length ns * l ≤ sum ns
sum-least l [] k = omega arith
sum-least l (n ∷ ns) k = omega (arith, k.0, sum-least l ns k.1, sum_by-cons (λ m. m) n ns)

sum-greatest : (h : ℕ) (ns : List ℕ) → Every (λ n. n ≤ h) ns → sum ns ≤ length ns * h
sum-greatest h [] k = omega arith
sum-greatest h (n ∷ ns) k = omega (arith, k.0, sum-greatest h ns k.1, sum_by-cons (λ m. m) n ns)

-- the same where the product of the upper ends stays below 2^128-1
pub sum-most : (g h : ℕ) (ns : List ℕ) → g * h < 2 ^ 128 - 1 → (g < 2 ^ 128 - 1 → length ns ≤ g) → Every (λ n. h < 2 ^ 128 - 1 → n ≤ h) ns → sum ns ≤ g * h
sum-most zero h [] l k e = omega arith
sum-most zero h (n ∷ ns) l k e = absurd (omega (arith, k (omega arith)))
sum-most (suc g) h ns l k e =
    let p : 1 * h ≤ suc g * h = mul-le 1 h (suc g) h (omega arith) (omega arith) in
    let b : h < 2 ^ 128 - 1 = omega (arith, l, p) in
    omega (arith, sum-greatest h ns (Every-impl (λ n. h < 2 ^ 128 - 1 → n ≤ h) (λ n. n ≤ h) (λ n f. f b) ns e), high-product (suc g) h (length ns) h l k (λ m. omega arith))
