-- Pairs that ascend stand in runs of equal first numbers.
use Rattle.std.specs.Prelude.{◌≡◌, ℕ, zero, suc, ◌+◌, ◌-◌, ◌<◌, ◌≤◌, max, Bool, true, false, cond, nat_lt, nat_eq, List, [], ◌∷◌, ◌++◌, length, map, take, drop, refl}
use Rattle.std.proofs.Common.{get_or, sym, ap, ◌∙◌, arith}
use Rattle.std.specs.declared.cmp.Ordering.{Ordering}
use Rattle.std.specs.declared.cmp.Ordering.TheVariants.{Less}
use Rattle.std.specs.Ordering.{nat_cmp, ordering_then}
use Rattle.std.specs.List.{AllByRecursion, filter, slice_range}
use Rattle.std.specs.List.Sorted.{IsStrictlySortedBy}
use Rattle.std.proofs.lemmas.List.{map-append}
use Rattle.aql_value.specs.Lists.{below}
use Rattle.aql_value.specs.Laws.Lists.{below-last}
use Rattle.aql_value.specs.Operations.{dims_above, greater_each}
use Rattle.nrca_sets.specs.Pairs.{pair_cmp}
use Rattle.nrca_sets.specs.Runs.{first_index, count_below}

-- no first number is above one that follows
abbrev pub FirstsRise : List (ℕ × ℕ) → Type 0
FirstsRise [] = Unit {0}
FirstsRise (p ∷ ps) = AllByRecursion (λ q. p.0 ≤ q.0) ps × FirstsRise ps

first_le : (m n : ℕ) (o : Ordering) → ordering_then (nat_cmp m n) o ≡ Less → m ≤ n
first_le m n o e = grind (arith, e)

firsts_le : (p : ℕ × ℕ) (ps : List (ℕ × ℕ)) → AllByRecursion (λ q. pair_cmp p q ≡ Less) ps → AllByRecursion (λ q. p.0 ≤ q.0) ps
firsts_le p [] h = tt
firsts_le p (q ∷ ps) h = (first_le p.0 q.0 (nat_cmp p.1 q.1) h.0, firsts_le p ps h.1)

pub firsts_rise : (ps : List (ℕ × ℕ)) → IsStrictlySortedBy pair_cmp ps → FirstsRise ps
unfolding IsStrictlySortedBy
firsts_rise [] h = tt
firsts_rise (p ∷ ps) h = (firsts_le p ps h.0, firsts_rise ps h.1)

all_at : (m : ℕ) (ps : List (ℕ × ℕ)) (k : ℕ) (d : ℕ × ℕ) → AllByRecursion (λ q. m ≤ q.0) ps → k < length ps → m ≤ (get_or ps k d).0
all_at m [] k d h l = absurd (omega (arith, l))
all_at m (q ∷ ps) zero d h l = h.0
all_at m (q ∷ ps) (suc k) d h l = all_at m ps k d h.1 (omega (arith, l))

kept_within : (b : Bool) (p : ℕ × ℕ) (xs : List (ℕ × ℕ)) (n : ℕ) → length xs ≤ n → length (cond b (p ∷ xs) xs) ≤ suc n
kept_within true p xs n h = omega (arith, h)
kept_within false p xs n h = omega (arith, h)

kept_first : (b : Bool) (m n : ℕ) (p : ℕ × ℕ) (xs : List (ℕ × ℕ)) → nat_lt m n ≡ b → m < n → 0 < length (cond b (p ∷ xs) xs)
kept_first true m n p xs e h = omega arith
kept_first false m n p xs e h = absurd (grind (arith, e, h))

kept_behind : (b : Bool) (m n k : ℕ) (p : ℕ × ℕ) (xs : List (ℕ × ℕ)) → nat_lt m n ≡ b → m < n → k < length xs → suc k < length (cond b (p ∷ xs) xs)
kept_behind true m n k p xs e h l = omega (arith, l)
kept_behind false m n k p xs e h l = absurd (grind (arith, e, h))

dropped_first : (b : Bool) (m n : ℕ) (p : ℕ × ℕ) (xs : List (ℕ × ℕ)) → nat_lt m n ≡ b → n ≤ m → length xs ≤ 0 → length (cond b (p ∷ xs) xs) ≤ 0
dropped_first true m n p xs e h l = absurd (grind (arith, e, h))
dropped_first false m n p xs e h l = l

kept_both : (a b : Bool) (m n k : ℕ) (p : ℕ × ℕ) (xs ys : List (ℕ × ℕ)) → nat_lt k m ≡ a → nat_lt k n ≡ b → m ≤ n → length xs ≤ length ys → length (cond a (p ∷ xs) xs) ≤ length (cond b (p ∷ ys) ys)
kept_both true true m n k p xs ys e f h l = omega (arith, l)
kept_both false true m n k p xs ys e f h l = omega (arith, l)
kept_both false false m n k p xs ys e f h l = l
kept_both true false m n k p xs ys e f h l = absurd (grind (arith, e, f, h))

-- the pairs whose first number is below n
abbrev pub below_first : ℕ → List (ℕ × ℕ) → List (ℕ × ℕ)
below_first n ps = filter (λ p. nat_lt p.0 n) ps

pub count_within : (n : ℕ) (ps : List (ℕ × ℕ)) → count_below n ps ≤ length ps
count_within n [] = omega arith
count_within n (p ∷ ps) = kept_within (nat_lt p.0 n) p (below_first n ps) (length ps) (count_within n ps)

-- a first number below n stands before the place
pub counted : (n : ℕ) (ps : List (ℕ × ℕ)) (k : ℕ) (d : ℕ × ℕ) → FirstsRise ps → k < length ps → (get_or ps k d).0 < n → k < count_below n ps
counted n [] k d s l h = absurd (omega (arith, l))
counted n (p ∷ ps) zero d s l h = kept_first (nat_lt p.0 n) p.0 n p (below_first n ps) refl h
counted n (p ∷ ps) (suc k) d s l h =
    kept_behind (nat_lt p.0 n) p.0 n k p (below_first n ps) refl (omega (arith, all_at p.0 ps k d s.0 (omega (arith, l)), h))
    (counted n ps k d s.1 (omega (arith, l)) h)

all_above : (n m : ℕ) (ps : List (ℕ × ℕ)) → n ≤ m → AllByRecursion (λ q. m ≤ q.0) ps → AllByRecursion (λ q. n ≤ q.0) ps
all_above n m [] h a = tt
all_above n m (q ∷ ps) h a = (omega (arith, h, a.0), all_above n m ps h a.1)

none_kept : (n : ℕ) (ps : List (ℕ × ℕ)) → AllByRecursion (λ q. n ≤ q.0) ps → count_below n ps ≤ 0
none_kept n [] a = omega arith
none_kept n (q ∷ ps) a = dropped_first (nat_lt q.0 n) q.0 n q (below_first n ps) refl a.0 (none_kept n ps a.1)

-- a first number that is not below n stands behind the place
pub not_counted : (n : ℕ) (ps : List (ℕ × ℕ)) (k : ℕ) (d : ℕ × ℕ) → FirstsRise ps → k < length ps → n ≤ (get_or ps k d).0 → count_below n ps ≤ k
not_counted n [] k d s l h = absurd (omega (arith, l))
not_counted n (p ∷ ps) zero d s l h = none_kept n (p ∷ ps) (h, all_above n p.0 ps h s.0)
not_counted n (p ∷ ps) (suc k) d s l h = kept_within (nat_lt p.0 n) p (below_first n ps) k (not_counted n ps k d s.1 (omega (arith, l)) h)

-- no fewer are below a greater number
pub count_rises : (m n : ℕ) (ps : List (ℕ × ℕ)) → m ≤ n → count_below m ps ≤ count_below n ps
count_rises m n [] h = omega arith
count_rises m n (p ∷ ps) h =
    kept_both (nat_lt p.0 m) (nat_lt p.0 n) m n p.0 p (below_first m ps) (below_first n ps) refl refl h (count_rises m n ps h)

-- of no pairs the dimension is 0
pub dims_of_none : (ps : List (ℕ × ℕ)) → length ps ≡ 0 → dims_above 1 (map first_index ps) ≡ 0 ∷ []
dims_of_none [] e = refl
dims_of_none (p ∷ ps) e = absurd (omega (arith, e))

greater_last : (p : ℕ × ℕ) (ps : List (ℕ × ℕ)) (n : ℕ) → dims_above 1 (map first_index ps) ≡ n ∷ [] → p.0 + 1 ≤ n → dims_above 1 (map first_index (p ∷ ps)) ≡ n ∷ []
greater_last p ps n e h = ap (greater_each (suc p.0 ∷ [])) e ∙ (let m : max (suc p.0) n ≡ n = omega (arith, h) in ap (λ k. k ∷ []) m)

dims_at_last : (ps : List (ℕ × ℕ)) (k : ℕ) (d : ℕ × ℕ) → FirstsRise ps → length ps ≡ k + 1 → dims_above 1 (map first_index ps) ≡ ((get_or ps k d).0 + 1) ∷ []
dims_at_last [] k d s e = absurd (omega (arith, e))
dims_at_last (p ∷ []) zero d s e = let m : max (suc p.0) 0 ≡ p.0 + 1 = omega arith in ap (λ k. k ∷ []) m
dims_at_last (p ∷ []) (suc k) d s e = absurd (omega (arith, e))
dims_at_last (p ∷ q ∷ ps) zero d s e = absurd (omega (arith, e))
dims_at_last (p ∷ q ∷ ps) (suc k) d s e =
    greater_last p (q ∷ ps) ((get_or (q ∷ ps) k d).0 + 1) (dims_at_last (q ∷ ps) k d s.1 (omega (arith, e)))
    (omega (arith, all_at p.0 (q ∷ ps) k d s.0 (omega (arith, e))))

-- the last first number and 1 is the dimension
pub dims_of_last : (ps : List (ℕ × ℕ)) (k : ℕ) (d : ℕ × ℕ) → IsStrictlySortedBy pair_cmp ps → length ps ≡ k + 1 → dims_above 1 (map first_index ps) ≡ ((get_or ps k d).0 + 1) ∷ []
dims_of_last ps k d s e = dims_at_last ps k d (firsts_rise ps s) e

-- the places so far, and one more
pub starts_more : (ps : List (ℕ × ℕ)) (i at : ℕ) (xs ys : List ℕ) → map (λ k. count_below k ps) (below i) ≡ xs → at ≡ count_below i ps → ys ≡ xs ++ at ∷ [] → map (λ k. count_below k ps) (below (suc i)) ≡ ys
starts_more ps i at xs ys h e q =
    ap (map (λ k. count_below k ps)) (below-last i)
    ∙ map-append (λ k. count_below k ps) (below i) (i ∷ [])
    ∙ (λ j. h j ++ sym e j ∷ [])
    ∙ sym q

pub starts_next : (ps : List (ℕ × ℕ)) (i at : ℕ) (xs ys : List ℕ) → map (λ k. count_below k ps) (below i) ≡ xs → at ≡ count_below i ps → ys ≡ xs ++ at ∷ [] → map (λ k. count_below k ps) (below (i + 1)) ≡ ys
starts_next ps i at xs ys h e q = (let k : i + 1 ≡ suc i = omega arith in ap (λ n. map (λ k. count_below k ps) (below n)) k) ∙ starts_more ps i at xs ys h e q

run_none : (i : ℕ) (ps : List (ℕ × ℕ)) → AllByRecursion (λ q. suc i ≤ q.0) ps → filter (λ p. nat_eq p.0 i) ps ≡ []
run_none i [] a = refl
run_none i (p ∷ ps) a =
    let e : nat_eq p.0 i ≡ false = grind (arith, a.0) in
    ap (λ b. cond b (p ∷ filter (λ q. nat_eq q.0 i) ps) (filter (λ q. nat_eq q.0 i) ps)) e ∙ run_none i ps a.1

kept_lengths : (i : ℕ) (p : ℕ × ℕ) (ps : List (ℕ × ℕ)) (b : Bool) → nat_lt p.0 i ≡ b → count_below i (p ∷ ps) ≡ cond b (suc (count_below i ps)) (count_below i ps)
kept_lengths i p ps true e = ap (λ b. length (cond b (p ∷ below_first i ps) (below_first i ps))) e
kept_lengths i p ps false e = ap (λ b. length (cond b (p ∷ below_first i ps) (below_first i ps))) e

-- the pairs with a first number stand from the place under it up to the place under the next number
pub run_is : (i : ℕ) (ps : List (ℕ × ℕ)) → FirstsRise ps → filter (λ p. nat_eq p.0 i) ps ≡ slice_range ps (count_below i ps) (count_below (suc i) ps)
run_is i [] s = refl
run_is i (p ∷ ps) s = by_order (nat_lt p.0 i) (nat_lt p.0 (suc i)) refl refl (run_is i ps s.1)
  where
    out : ℕ → ℕ → List (ℕ × ℕ)
    out m n = slice_range (p ∷ ps) m n

    by_order : (a b : Bool) → nat_lt p.0 i ≡ a → nat_lt p.0 (suc i) ≡ b → filter (λ q. nat_eq q.0 i) ps ≡ slice_range ps (count_below i ps) (count_below (suc i) ps) →
        filter (λ q. nat_eq q.0 i) (p ∷ ps) ≡ slice_range (p ∷ ps) (count_below i (p ∷ ps)) (count_below (suc i) (p ∷ ps))
    by_order true true e f h =
        let no : nat_eq p.0 i ≡ false = grind (arith, e) in
        ap (λ b. cond b (p ∷ filter (λ q. nat_eq q.0 i) ps) (filter (λ q. nat_eq q.0 i) ps)) no
        ∙ h
        ∙ (let k : count_below (suc i) ps - count_below i ps ≡ suc (count_below (suc i) ps) - suc (count_below i ps) = omega arith in ap (λ n. take n (drop (count_below i ps) ps)) k)
        ∙ (λ j. out (sym (kept_lengths i p ps true e) j) (sym (kept_lengths (suc i) p ps true f) j))
    by_order true false e f h = absurd (grind (arith, e, f))
    by_order false true e f h =
        let yes : nat_eq p.0 i ≡ true = grind (arith, e, f) in
        let zero_before : count_below i ps ≡ 0 = omega (arith, none_kept i ps (all_above i p.0 ps (grind (arith, e)) s.0)) in
        ap (λ b. cond b (p ∷ filter (λ q. nat_eq q.0 i) ps) (filter (λ q. nat_eq q.0 i) ps)) yes
        ∙ ap (λ l. p ∷ l) (h ∙ ap (λ n. slice_range ps n (count_below (suc i) ps)) zero_before)
        ∙ (let k : suc (count_below (suc i) ps - 0) ≡ suc (count_below (suc i) ps) - 0 = omega arith in ap (λ n. take n (p ∷ ps)) k)
        ∙ (λ j. out (sym (kept_lengths i p ps false e ∙ zero_before) j) (sym (kept_lengths (suc i) p ps true f) j))
    by_order false false e f h =
        let no : nat_eq p.0 i ≡ false = grind (arith, e, f) in
        let above = all_above (suc i) p.0 ps (grind (arith, f)) s.0 in
        let zero_before : count_below i ps ≡ 0 = omega (arith, count_rises i (suc i) ps (omega arith), none_kept (suc i) ps above) in
        let zero_after : count_below (suc i) ps ≡ 0 = omega (arith, none_kept (suc i) ps above) in
        ap (λ b. cond b (p ∷ filter (λ q. nat_eq q.0 i) ps) (filter (λ q. nat_eq q.0 i) ps)) no
        ∙ run_none i ps above
        ∙ (λ j. out (sym (kept_lengths i p ps false e ∙ zero_before) j) (sym (kept_lengths (suc i) p ps false f ∙ zero_after) j))
