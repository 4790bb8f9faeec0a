-- Products and places that stop at a greatest number.
use Rattle.std.specs.Prelude.{◌≡◌, ℕ, zero, suc, ◌+◌, ◌*◌, ◌<◌, ◌≤◌, min, List, [], ◌∷◌, length, take}
use Rattle.std.proofs.Common.{get_or, sym, ap, ◌∙◌, arith, inl, inr}
use Rattle.std.proofs.lemmas.Bool.{cases_lt}
use Rattle.std.proofs.Math.Nat.{add-mul, mul_assoc}
use Rattle.aql_value.specs.Indices.{product}

grows : (a m d : ℕ) → m ≤ a → m ≤ a * suc d
grows a m d h = let e : a * suc d ≡ a * d + a = omega arith in omega (arith, e, h)

-- a number that has stopped at m gives the product and sum that the number itself gives
pub saturating_step : (a d i m : ℕ) → min (min a m * d + i) m ≡ min (a * d + i) m
saturating_step a zero i m = omega arith
saturating_step a (suc d) i m =
    elim (cases_lt a m) as (λ _. min (min a m * suc d + i) m ≡ min (a * suc d + i) m) [
      | inl h ↦ let e : min a m ≡ a = omega arith in ap (λ x. min (x * suc d + i) m) e
      | inr h ↦
          let e : min a m ≡ m = omega arith in
          let p = grows m m d (omega arith) in
          let q = grows a m d h in
          let f : min (m * suc d + i) m ≡ min (a * suc d + i) m = omega (arith, p, q) in
          ap (λ x. min (x * suc d + i) m) e ∙ f
    ]

pub saturating_product : (a d m : ℕ) → min (min a m * d) m ≡ min (a * d) m
saturating_product a d m = omega (arith, saturating_step a d 0 m)

product-take : (ds : List ℕ) (j d : ℕ) → j < length ds → product (take (j + 1) ds) ≡ product (take j ds) * get_or ds j d
product-take [] j d h = absurd (omega (arith, h))
product-take (e ∷ ds) zero d h = omega arith
product-take (e ∷ ds) (suc j) d h =
    (let z : suc j + 1 ≡ suc (j + 1) = omega arith in ap (λ n. product (take n (e ∷ ds))) z)
    ∙ ap (λ n. e * n) (product-take ds j d (omega (arith, h)))
    ∙ sym (mul_assoc e (product (take j ds)) (get_or ds j d))

-- one dimension more in a product that stops at m
pub product_more : (ds : List ℕ) (j d all m : ℕ) → j < length ds → all ≡ min (product (take j ds)) m → min (all * get_or ds j d) m ≡ min (product (take (j + 1) ds)) m
product_more ds j d all m h e =
    ap (λ n. min (n * get_or ds j d) m) e ∙ saturating_product (product (take j ds)) (get_or ds j d) m ∙ ap (λ n. min n m) (sym (product-take ds j d h))

-- a place found from the left, by Horner's rule
abbrev pub horner : ℕ → (dims at : List ℕ) → ℕ
horner a [] at = a
horner a (d ∷ ds) [] = a
horner a (d ∷ ds) (i ∷ at) = horner (a * d + i) ds at
