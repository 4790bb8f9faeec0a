-- The indices of a row of an array.
use Rattle.std.proofs.Common.{◌≡◌, ℕ, zero, suc, ◌+◌, ◌-◌, ◌*◌, ◌<◌, ◌≤◌, nat_lt, Bool, true, false, cond, List, [], ◌∷◌, ◌++◌, length, map, take, drop, get_or, Option, Some, None, refl, sym, ◌∙◌, ap, arith}
use Rattle.std.specs.List.{slice_get, slice_range, range_with_len}
use Rattle.std.specs.Option.{option_map}
use Rattle.std.proofs.lemmas.Bool.{lt-ltb}
use Rattle.std.proofs.lemmas.Option.{same_Some}
use Rattle.aql_value.specs.Datum.{Datum, natural}
use Rattle.aql_value.specs.Indices.{indices, offset_of, product}
use Rattle.aql_value.specs.Laws.RowMajor.{place_of_index, row_major}
use Rattle.aql_value.specs.Operations.{push_index}

-- the last number of an index is the innermost variable
pub walked_last : (outer : List ℕ) (i : ℕ) (l : List Datum) → push_index (outer ++ i ∷ []) l ≡ natural i ∷ push_index outer l
walked_last [] i l = refl
walked_last (x ∷ outer) i l = walked_last outer i (natural x ∷ l)

-- a list ends in its last element
pub ends_in : (xs : List ℕ) (n : ℕ) → length xs ≡ n + 1 → xs ≡ take n xs ++ get_or xs n 0 ∷ []
ends_in [] n e = absurd (omega (arith, e))
ends_in (x ∷ []) zero e = refl
ends_in (x ∷ y ∷ xs) zero e = absurd (omega (arith, e))
ends_in (x ∷ xs) (suc n) e = ap (λ l. x ∷ l) (ends_in xs n (omega (arith, e)))

-- an element and those behind it
drop_at : {X : Type 0} (xs : List X) (p : ℕ) (x : X) → slice_get xs p ≡ Some x → drop p xs ≡ x ∷ drop (p + 1) xs
drop_at [] p x e = cc
drop_at (y ∷ ys) zero x e = let z : y ≡ x = cc in ap (λ w. w ∷ ys) z
drop_at (y ∷ ys) (suc p) x e = drop_at ys p x e ∙ ap (λ n. x ∷ drop n (y ∷ ys)) (let z : suc (p + 1) ≡ suc p + 1 = omega arith in z)

-- elements that follow each other and are known one by one
pub range_from : {X : Type 0} (xs : List X) (g : ℕ → X) (p i n : ℕ) → ((j : ℕ) → j < n → slice_get xs (p + j) ≡ Some (g (i + j))) → take n (drop p xs) ≡ map g (range_with_len i n)
range_from xs g p i zero h = refl
range_from xs g p i (suc n) h =
    let first : slice_get xs p ≡ Some (g i) = ap (slice_get xs) (let z : p ≡ p + 0 = omega arith in z) ∙ h 0 (omega arith) ∙ ap (λ k. Some (g k)) (let z : i + 0 ≡ i = omega arith in z) in
    ap (take (suc n)) (drop_at xs p (g i) first)
    ∙ ap (λ l. g i ∷ l) (range_from xs g (p + 1) (i + 1) n (λ j l. ap (slice_get xs) (let z : p + 1 + j ≡ p + suc j = omega arith in z) ∙ h (suc j) (omega (arith, l)) ∙ ap (λ k. Some (g k)) (let z : i + suc j ≡ i + 1 + j = omega arith in z)))

step : (b : Bool) (m p j : ℕ) (o r : Option ℕ) → cond b (option_map (λ q. m + q) o) None ≡ Some p → ((q : ℕ) → o ≡ Some q → r ≡ Some (q + j)) → cond b (option_map (λ q. m + q) r) None ≡ Some (p + j)
step false m p j o r f h = cc
step true m p j None r f h = cc
step true m p j (Some q) r f h = let k : m + q ≡ p = same_Some (m + q) p f in ap (option_map (λ q. m + q)) (h q refl) ∙ ap Some (omega (arith, k))

nowhere : {X : Type 0} (b : Bool) (x : X) → cond b None None ≡ Some x → ⊥
nowhere true x f = cc
nowhere false x f = cc

-- an index further on in a row
in_row : (ds outer : List ℕ) (i j p : ℕ) → offset_of ds (outer ++ i ∷ []) ≡ Some p → i + j < get_or ds (length outer) 0 → offset_of ds (outer ++ (i + j) ∷ []) ≡ Some (p + j)
in_row [] [] i j p e h = cc
in_row [] (x ∷ outer) i j p e h = cc
in_row (d ∷ []) [] i j p e h =
    let low : nat_lt i d ≡ true = lt-ltb i d (omega (arith, h)) in
    let high : nat_lt (i + j) d ≡ true = lt-ltb (i + j) d h in
    let q : i * 1 + 0 ≡ p = same_Some (i * 1 + 0) p (ap (λ b. cond b (Some (i * 1 + 0)) None) (sym low) ∙ e) in
    ap (λ b. cond b (Some ((i + j) * 1 + 0)) None) high ∙ ap Some (omega (arith, q))
in_row (d ∷ c ∷ ds) [] i j p e h = absurd (nowhere (nat_lt i d) p e)
in_row (d ∷ ds) (x ∷ outer) i j p e h = step (nat_lt x d) (x * product ds) p j (offset_of ds (outer ++ i ∷ [])) (offset_of ds (outer ++ (i + j) ∷ [])) e (λ q s. in_row ds outer i j q s h)

-- the indices of a row from the p-th on
pub row_range : (ds outer : List ℕ) (i n p : ℕ) → slice_get (indices ds) p ≡ Some (outer ++ i ∷ []) → i + n ≤ get_or ds (length outer) 0 → slice_range (indices ds) p (p + n) ≡ map (λ k. outer ++ k ∷ []) (range_with_len i n)
row_range ds outer i n p e h =
    ap (λ k. take k (drop p (indices ds))) (let z : p + n - p ≡ n = omega arith in z)
    ∙ range_from (indices ds) (λ k. outer ++ k ∷ []) p i n
    (λ j l. row_major ds (outer ++ (i + j) ∷ []) (p + j) (in_row ds outer i j p (place_of_index ds (outer ++ i ∷ []) p e) (omega (arith, h, l))))
