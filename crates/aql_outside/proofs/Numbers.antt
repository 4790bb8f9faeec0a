-- Whether the number of the next call is in a list.
use Rattle.std.proofs.Common.{◌≡◌, ℕ, ◌+◌, ◌<◌, ◌^◌, List, refl, sym, ◌∙◌, subst, arith, eq-eqb}
use Rattle.std.proofs.lemmas.Bool.{eqb-true, true≢false}
use Rattle.std.specs.Prelude.{Bool, true, false, IsTrue, Contains, nat_eq, ◌↔◌}
use Rattle.std.specs.List.{IsAnyAnswer}

-- a search for a number in a list says whether the list contains it
found_is_listed : (xs : List ℕ) (n : ℕ) (found : Bool) → IsAnyAnswer (λ x b. nat_eq x n ≡ b) xs found → IsTrue found ↔ Contains xs n
found_is_listed xs n true (k, lt, is) = (λ _. (k, lt, eqb-true _ _ (is n)), λ _. refl)
found_is_listed xs n false none = (λ h. absurd (true≢false (sym h)), λ (k, lt, is). absurd (true≢false (sym (eq-eqb _ _ is) ∙ none k n (omega arith) lt)))

-- the same of the number behind `made`
pub next_listed : (fails seen : List ℕ) (made n : ℕ) (found : Bool) → seen ≡ fails → (made + 1 < 2 ^ 64) × (n ≡ made + 1)
    → IsAnyAnswer (λ x b. nat_eq x n ≡ b) seen found → IsTrue found ↔ ((made + 1 < 2 ^ 64) × Contains fails (made + 1))
next_listed fails seen made n found same (small, is) h =
    let both : IsTrue found ↔ Contains fails (made + 1) =
    subst (λ (m : ℕ). IsTrue found ↔ Contains fails m) is (subst (λ (xs : List ℕ). IsTrue found ↔ Contains xs n) same (found_is_listed seen n found h)) in
    (λ t. (small, both.0 t), λ (_, l). both.1 l)
