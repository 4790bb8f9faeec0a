-- The order of the indices of an array, as lists and as values. It speaks of aql_value alone, and its place would be there.
use Rattle.std.proofs.Common.{◌≡◌, ℕ, zero, suc, ◌+◌, ◌<◌, List, [], ◌∷◌, ◌++◌, length, map, refl, sym, ap, subst, ◌∙◌, arith}
use Rattle.std.specs.declared.cmp.Ordering.{Ordering}
use Rattle.std.specs.declared.cmp.Ordering.TheVariants.{Less, Equal}
use Rattle.std.specs.Ordering.{nat_cmp, ordering_then}
use Rattle.std.specs.Cmp.Lexicographic.{slice_cmp}
use Rattle.std.specs.List.{range_with_len}
use Rattle.std.specs.List.Sorted.{IsStrictlySortedBy}
use Rattle.aql_value.specs.Datum.{natural, data_of}
use Rattle.aql_value.specs.Indices.{indices}
use Rattle.aql_value.specs.Lists.{Every}
use Rattle.aql_value.specs.Laws.Lists.{Every-all, Every-impl, Every-onto, Every-append, Every-nested, Every-range}
use Rattle.aql_value.specs.Operations.{index_value}
use Rattle.aql_value.specs.Order.{datum_cmp, data_cmp}
use Rattle.aql_value.specs.Laws.Order.{then_equal}
use Rattle.aql_value.specs.Partial.{concat}
use Rattle.aql_value.specs.Laws.RowMajor.{indices-cons}

-- lists of numbers as parts of a tuple are compared number by number
naturals-order : (ms ns : List ℕ) → data_cmp (data_of (map natural ms)) (data_of (map natural ns)) ≡ slice_cmp nat_cmp ms ns
naturals-order [] [] = refl
naturals-order [] (n ∷ ns) = refl
naturals-order (m ∷ ms) [] = refl
naturals-order (m ∷ ms) (n ∷ ns) = ap (ordering_then (nat_cmp m n)) (naturals-order ms ns)

-- indices of one rank are compared number by number
pub index-order : (ms ns : List ℕ) → length ms ≡ length ns → datum_cmp (index_value ms) (index_value ns) ≡ slice_cmp nat_cmp ms ns
index-order [] [] e = refl
index-order [] (n ∷ ns) e = absurd (omega (arith, e))
index-order (m ∷ ms) [] e = absurd (omega (arith, e))
index-order (m ∷ []) (n ∷ []) e = sym (then_equal (nat_cmp m n))
index-order (m ∷ []) (n ∷ k ∷ ns) e = absurd (omega (arith, e))
index-order (m ∷ l ∷ ms) (n ∷ []) e = absurd (omega (arith, e))
index-order (m ∷ l ∷ ms) (n ∷ k ∷ ns) e = naturals-order (m ∷ l ∷ ms) (n ∷ k ∷ ns)

-- two sorted lists, each element of the first below each of the second
sorted-append : {A : Type 0} (c : A → A → Ordering) (xs ys : List A) → IsStrictlySortedBy c xs → IsStrictlySortedBy c ys → Every (λ x. Every (λ y. c x y ≡ Less) ys) xs → IsStrictlySortedBy c (xs ++ ys)
unfolding IsStrictlySortedBy
sorted-append c [] ys h k a = k
sorted-append c (x ∷ xs) ys h k a = (Every-append (λ y. c x y ≡ Less) xs ys h.0 a.0, sorted-append c xs ys h.1 k a.1)

-- sorted indices with one number more before each
sorted-first : (i : ℕ) (ats : List (List ℕ)) → IsStrictlySortedBy (slice_cmp nat_cmp) ats → IsStrictlySortedBy (slice_cmp nat_cmp) (map (λ at. i ∷ at) ats)
unfolding IsStrictlySortedBy
sorted-first i [] h = tt
sorted-first i (at ∷ ats) h = (Every-onto (λ y. slice_cmp nat_cmp (i ∷ at) y ≡ Less) (λ b. i ∷ b) ats (Every-impl (λ b. slice_cmp nat_cmp at b ≡ Less) (λ b. slice_cmp nat_cmp (i ∷ at) (i ∷ b) ≡ Less) (λ b k. tied b k) ats h.0), sorted-first i ats h.1)
  where
    tied : (b : List ℕ) → slice_cmp nat_cmp at b ≡ Less → ordering_then (nat_cmp i i) (slice_cmp nat_cmp at b) ≡ Less
    tied b k = ap (λ o. ordering_then o (slice_cmp nat_cmp at b)) (same i) ∙ k
      where
        same : (n : ℕ) → nat_cmp n n ≡ Equal
        same n = grind (arith)

-- the comparison of a lower number
less-is : (m a : ℕ) → m < a → nat_cmp m a ≡ Less
less-is m a h = grind (arith, h)

-- an index of an earlier row is below those of the rows after it
rows-above : (ats : List (List ℕ)) (m : ℕ) (at : List ℕ) (a n : ℕ) → m < a → Every (λ y. slice_cmp nat_cmp (m ∷ at) y ≡ Less) (concat (map (λ i. map (λ b. i ∷ b) ats) (range_with_len a n)))
rows-above ats m at a n l =
    Every-nested (λ y. slice_cmp nat_cmp (m ∷ at) y ≡ Less) (λ i. map (λ b. i ∷ b) ats) (range_with_len a n)
    (Every-range (λ i. Every (λ y. slice_cmp nat_cmp (m ∷ at) y ≡ Less) (map (λ b. i ∷ b) ats)) a n
    (λ i h k. Every-onto (λ y. slice_cmp nat_cmp (m ∷ at) y ≡ Less) (λ b. i ∷ b) ats (Every-all _ (λ b. ap (λ o. ordering_then o (slice_cmp nat_cmp at b)) (less-is m i (omega (arith, h, l)))) ats)))

-- the rows from number a on ascend
rows-ascend : (ats : List (List ℕ)) → IsStrictlySortedBy (slice_cmp nat_cmp) ats → (a n : ℕ) → IsStrictlySortedBy (slice_cmp nat_cmp) (concat (map (λ i. map (λ b. i ∷ b) ats) (range_with_len a n)))
unfolding IsStrictlySortedBy
rows-ascend ats h a zero = tt
rows-ascend ats h a (suc n) =
    sorted-append (slice_cmp nat_cmp) (map (λ b. a ∷ b) ats) (concat (map (λ i. map (λ b. i ∷ b) ats) (range_with_len (a + 1) n))) (sorted-first a ats h) (rows-ascend ats h (a + 1) n)
    (Every-onto (λ x. Every (λ y. slice_cmp nat_cmp x y ≡ Less) (concat (map (λ i. map (λ b. i ∷ b) ats) (range_with_len (a + 1) n)))) (λ b. a ∷ b) ats
    (Every-all _ (λ b. rows-above ats a b (a + 1) n (omega arith)) ats))

-- the indices ascend
pub indices-ascend : (ds : List ℕ) → IsStrictlySortedBy (slice_cmp nat_cmp) (indices ds)
unfolding indices IsStrictlySortedBy
indices-ascend [] = (tt, tt)
indices-ascend (d ∷ ds) = subst (IsStrictlySortedBy (slice_cmp nat_cmp)) (sym (indices-cons d ds)) (rows-ascend (indices ds) (indices-ascend ds) 0 d)
