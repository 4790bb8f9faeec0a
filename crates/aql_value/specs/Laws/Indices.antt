-- Where the cell of an index stands in row-major order.
use Rattle.std.specs.Prelude.{◌≡◌, ℕ, zero, suc, ◌+◌, ◌*◌, ◌<◌, ◌≤◌, true, false, cond, ◌&&◌, nat_eq, nat_lt, List, [], ◌∷◌, ◌++◌, length, map, drop, Option, Some, None, refl}
use Rattle.std.proofs.Common.{sym, ap, ◌∙◌, arith, length-append, eq-eqb}
use Rattle.std.specs.List.{flat_map, range_with_len, zip, slice_get}
use Rattle.std.specs.Cmp.Lexicographic.{pointwise}
use Rattle.std.proofs.lemmas.List.{length-map}
use Rattle.std.proofs.lemmas.List.{drop-drop}
use Rattle.std.proofs.lemmas.Bool.{ltb-true, ltb-false, ne_eqb}
use Rattle.std.proofs.Math.Nat.{zero-mul}
use Rattle.aql_value.specs.Datum.{Datum}
use Rattle.aql_value.specs.Indices.{product, indices, paired_value, offset}
use Rattle.aql_value.specs.Partial.{or_else}
use Rattle.aql_value.specs.Laws.Partial.{or_cond}

abbrev blocks : List (List ℕ) → ℕ → ℕ → List (List ℕ)
blocks xs a n = flat_map (λ i. map (λ rest. i ∷ rest) xs) (range_with_len a n)

or_none : (p : Option Datum) → or_else p None ≡ p
or_none None = refl
or_none (Some x) = refl

zip_nothing : (ys : List (List ℕ)) (n : ℕ) → zip {X = Datum} ys (drop n []) ≡ []
zip_nothing [] n = refl
zip_nothing (y ∷ ys) zero = refl
zip_nothing (y ∷ ys) (suc n) = refl

paired-append : (at : List ℕ) (xs ys : List (List ℕ)) (cs : List Datum) → paired_value at (zip (xs ++ ys) cs) ≡ or_else (paired_value at (zip xs cs)) (paired_value at (zip ys (drop (length xs) cs)))
paired-append at [] ys cs = refl
paired-append at (x ∷ xs) ys [] = sym (ap (paired_value at) (zip_nothing ys (length (x ∷ xs))))
paired-append at (x ∷ xs) ys (c ∷ cs) =
    ap (cond (pointwise nat_eq at x) (Some c)) (paired-append at xs ys cs)
    ∙ sym (or_cond (pointwise nat_eq at x) c (paired_value at (zip xs cs)) (paired_value at (zip ys (drop (length xs) cs))))

same_first : (i a : ℕ) (at : List ℕ) (xs : List (List ℕ)) (cs : List Datum) → nat_eq i a ≡ true → paired_value (i ∷ at) (zip (map (λ rest. a ∷ rest) xs) cs) ≡ paired_value at (zip xs cs)
same_first i a at [] cs e = refl
same_first i a at (x ∷ xs) [] e = refl
same_first i a at (x ∷ xs) (c ∷ cs) e =
    λ j. cond (e j && pointwise nat_eq at x) (Some c) (same_first i a at xs cs e j)

other_first : (i a : ℕ) (at : List ℕ) (xs : List (List ℕ)) (cs : List Datum) → nat_eq i a ≡ false → paired_value (i ∷ at) (zip (map (λ rest. a ∷ rest) xs) cs) ≡ None
other_first i a at [] cs e = refl
other_first i a at (x ∷ xs) [] e = refl
other_first i a at (x ∷ xs) (c ∷ cs) e =
    λ j. cond (e j && pointwise nat_eq at x) (Some c) (other_first i a at xs cs e j)

no_first : (a : ℕ) (xs : List (List ℕ)) (cs : List Datum) → paired_value [] (zip (map (λ rest. a ∷ rest) xs) cs) ≡ None
no_first a [] cs = refl
no_first a (x ∷ xs) [] = refl
no_first a (x ∷ xs) (c ∷ cs) = no_first a xs cs

missed : (at : List ℕ) (xs : List (List ℕ)) (a n : ℕ) (cs : List Datum) → ((b : ℕ) (ds : List Datum) → a ≤ b → b < a + n → paired_value at (zip (map (λ rest. b ∷ rest) xs) ds) ≡ None) → paired_value at (zip (blocks xs a n) cs) ≡ None
missed at xs a zero cs h = refl
missed at xs a (suc n) cs h =
    paired-append at (map (λ rest. a ∷ rest) xs) (blocks xs (a + 1) n) cs
    ∙ (λ j. or_else (h a cs (omega arith) (omega arith) j) (missed at xs (a + 1) n (drop (length (map (λ rest. a ∷ rest) xs)) cs) (λ b ds p q. h b ds (omega (arith, p)) (omega (arith, q))) j))

first_missed : (i b : ℕ) (at : List ℕ) (xs : List (List ℕ)) (ds : List Datum) → (i ≡ b → ⊥) → paired_value (i ∷ at) (zip (map (λ rest. b ∷ rest) xs) ds) ≡ None
first_missed i b at xs ds h = other_first i b at xs ds (ne_eqb i b h)

hit : (at : List ℕ) (xs : List (List ℕ)) (a i k n : ℕ) (cs : List Datum) → i ≡ a + k → k < n → paired_value (i ∷ at) (zip (blocks xs a n) cs) ≡ paired_value at (zip xs (drop (k * length xs) cs))
hit at xs a i k zero cs e h = absurd (omega (arith, h))
hit at xs a i zero (suc n) cs e h =
    paired-append (i ∷ at) (map (λ rest. a ∷ rest) xs) (blocks xs (a + 1) n) cs
    ∙ (λ j. or_else (same_first i a at xs cs (eq-eqb i a (omega (arith, e))) j) (missed (i ∷ at) xs (a + 1) n (drop (length (map (λ rest. a ∷ rest) xs)) cs) (λ b ds p q. first_missed i b at xs ds (λ f. omega (arith, e, f, p))) j))
    ∙ or_none (paired_value at (zip xs cs))
    ∙ ap (λ m. paired_value at (zip xs (drop m cs))) (sym (zero-mul (length xs)))
hit at xs a i (suc k) (suc n) cs e h =
    paired-append (i ∷ at) (map (λ rest. a ∷ rest) xs) (blocks xs (a + 1) n) cs
    ∙ (λ j. or_else (first_missed i a at xs cs (λ f. omega (arith, e, f)) j) (paired_value (i ∷ at) (zip (blocks xs (a + 1) n) (drop (length-map xs (λ rest. a ∷ rest) j) cs))))
    ∙ hit at xs (a + 1) i k n (drop (length xs) cs) (omega (arith, e)) (omega (arith, h))
    ∙ ap (λ ds. paired_value at (zip xs ds)) (drop-drop (k * length xs) (length xs) cs)
    ∙ ap (λ m. paired_value at (zip xs (drop m cs))) (omega arith)

length_blocks : (xs : List (List ℕ)) (a n : ℕ) → length (blocks xs a n) ≡ n * length xs
length_blocks xs a zero = sym (zero-mul (length xs))
length_blocks xs a (suc n) =
    length-append (map (λ rest. a ∷ rest) xs) (blocks xs (a + 1) n)
    ∙ (λ j. length-map xs (λ rest. a ∷ rest) j + length_blocks xs (a + 1) n j)
    ∙ omega arith

-- an array has as many indices as the product of its dimensions
pub length_indices : (ds : List ℕ) → length (indices ds) ≡ product ds
unfolding indices
length_indices [] = refl
length_indices (d ∷ ds) = length_blocks (indices ds) 0 d ∙ ap (λ n. d * n) (length_indices ds)

slice_get-drop : (cs : List Datum) (m k : ℕ) → slice_get (drop m cs) k ≡ slice_get cs (m + k)
slice_get-drop cs zero k = ap (slice_get cs) (omega arith)
slice_get-drop [] (suc m) k = refl
slice_get-drop (c ∷ cs) (suc m) k = slice_get-drop cs m k ∙ ap (slice_get (c ∷ cs)) (let e : suc (m + k) ≡ suc m + k = omega arith in e)

-- the cell at an index stands at its place, and there is none at an index that is not below the dimensions
pub paired_is : (ds at : List ℕ) (cs : List Datum) → paired_value at (zip (indices ds) cs) ≡ cond (pointwise nat_lt at ds) (slice_get cs (offset ds at)) None
unfolding indices
paired_is [] [] [] = refl
paired_is [] [] (c ∷ cs) = refl
paired_is [] (i ∷ at) [] = refl
paired_is [] (i ∷ at) (c ∷ cs) = refl
paired_is (d ∷ ds) [] cs = missed [] (indices ds) 0 d cs (λ b es p q. no_first b (indices ds) es)
paired_is (d ∷ ds) (i ∷ at) cs =
    elim (nat_lt i d) as (λ b. nat_lt i d ≡ b → paired_value (i ∷ at) (zip (blocks (indices ds) 0 d) cs) ≡ cond (b && pointwise nat_lt at ds) (slice_get cs (i * product ds + offset ds at)) None) [
      | true ↦ λ e. hit at (indices ds) 0 i i d cs (omega arith) (ltb-true i d e)
          ∙ ap (λ n. paired_value at (zip (indices ds) (drop (i * n) cs))) (length_indices ds)
          ∙ paired_is ds at (drop (i * product ds) cs)
          ∙ ap (λ p. cond (pointwise nat_lt at ds) p None) (slice_get-drop cs (i * product ds) (offset ds at))
      | false ↦ λ e. missed (i ∷ at) (indices ds) 0 d cs (λ b es p q. first_missed i b at (indices ds) es (λ f. omega (arith, f, q, ltb-false i d e)))
    ] refl
