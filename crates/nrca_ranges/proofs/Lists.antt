-- Lists of intervals and of shapes: one entry more, one entry in the place of another, and entries by their place.
use Rattle.std.proofs.Common.{◌≡◌, ℕ, zero, suc, ◌+◌, ◌*◌, ◌-◌, ◌^◌, ◌<◌, ◌≤◌, min, Bool, true, false, ◌&&◌, nat_eq, List, [], ◌∷◌, ◌++◌, length, map, take, drop, get_or, refl, sym, ap, ◌∙◌, arith, add-one, ◌⊎◌, inl, inr}
use Rattle.std.proofs.Math.ListN.{set}
use Rattle.std.proofs.lemmas.Bool.{eq-eqb}
use Rattle.std.proofs.lemmas.Bool.Decides.{eqb_tells}
use Rattle.std.proofs.lemmas.List.{length-map, take_more}
use Rattle.aql_value.specs.Indices.{product}
use Rattle.aql_value.specs.Limits.{saturate}
use Rattle.aql_value.specs.Laws.Saturation.{saturating_product}
use Rattle.nrca_term.specs.Laws.Lists.{product-more}
use Rattle.nrca_ranges.specs.declared.interval.Interval.{Interval}
use Rattle.nrca_ranges.specs.declared.shape.Shape.{Shape}
use Rattle.nrca_ranges.specs.Bounds.{Bounds, unknown, row_of, AreIn}
use Rattle.nrca_ranges.specs.Certain.{all_below, is_full}
use Rattle.nrca_ranges.specs.Exact.{only, AreExactNumbers}
use Rattle.nrca_ranges.specs.Intervals.{hull, hulls, all_single, lows, is_below}
use Rattle.nrca_term.specs.Term.{Term}
use Rattle.nrca_ranges.specs.declared.context.Ctx.{Ctx}
use Rattle.nrca_ranges.specs.Shapes.{bounds_of, bounds_each, IsNumberIn, AreNumbersIn, IsExactNumber}
use Rattle.nrca_ranges.specs.Transfer.{interval_of, entry_at, first_intervals, part_at}

-- numbers, each in the interval of it alone
pub are-only : (ns : List ℕ) → AreIn (map only ns) ns
are-only [] = tt
are-only (n ∷ ns) = ((omega arith, λ l. omega arith), are-only ns)

-- entry i of a list of shapes
pub entry-there : (xs : List Shape) (i : ℕ) (x : Shape) → i < length xs → x ≡ get_or xs i x → bounds_of x ≡ entry_at (bounds_each xs) i
entry-there [] i x l e = absurd (omega (arith, l))
entry-there (y ∷ xs) zero x l e = ap bounds_of e
entry-there (y ∷ xs) (suc i) x l e = entry-there xs i x (omega (arith, l)) e

-- past the end there is none
pub entry-past : (xs : List Shape) (i : ℕ) → length xs ≤ i → entry_at (bounds_each xs) i ≡ unknown
entry-past [] i l = refl
entry-past (y ∷ xs) zero l = absurd (omega (arith, l))
entry-past (y ∷ xs) (suc i) l = entry-past xs i (omega (arith, l))

-- a part of a tuple counts from 1
pub part-entry : (bs : List Bounds) (i : ℕ) → part_at (row_of bs) (suc i) ≡ entry_at bs i
part-entry [] i = refl
part-entry (b ∷ bs) zero = refl
part-entry (b ∷ bs) (suc i) = part-entry bs i

-- one place more of two lists that are widened
pub widened : (xs bs cur new : List Interval) (i : ℕ) (x d w : Interval) → i < length xs → length xs ≡ length bs → cur ≡ hulls (take i xs) (take i bs) ++ drop i xs → x ≡ get_or cur i x → w ≡ hull x (get_or bs i d) → new ≡ set cur i w →
    new ≡ hulls (take (i + 1) xs) (take (i + 1) bs) ++ drop (i + 1) xs
widened xs bs cur new i x d w l e h p k z =
    z ∙ ap (λ c. set c i w) h ∙ ap (set (hulls (take i xs) (take i bs) ++ drop i xs) i) (k ∙ ap (λ a. hull a (get_or bs i d)) (p ∙ ap (λ c. get_or c i x) h))
    ∙ step xs bs i l e ∙ ap (λ n. hulls (take n xs) (take n bs) ++ drop n xs) (sym (add-one i))
  where
    step : (xs bs : List Interval) (i : ℕ) → i < length xs → length xs ≡ length bs →
        set (hulls (take i xs) (take i bs) ++ drop i xs) i (hull (get_or (hulls (take i xs) (take i bs) ++ drop i xs) i x) (get_or bs i d)) ≡ hulls (take (suc i) xs) (take (suc i) bs) ++ drop (suc i) xs
    step [] bs i l e = absurd (omega (arith, l))
    step (a ∷ xs) [] i l e = absurd (omega (arith, e))
    step (a ∷ xs) (b ∷ bs) zero l e = refl
    step (a ∷ xs) (b ∷ bs) (suc i) l e = ap (λ c. hull a b ∷ c) (step xs bs i (omega (arith, l)) (omega (arith, e)))

-- another shape in the place of one entry leaves the others
pub kept-others : (xs : List Shape) (i : ℕ) (y : Shape) (j : ℕ) → (j ≡ i → ⊥) → entry_at (bounds_each (set xs i y)) j ≡ entry_at (bounds_each xs) j
kept-others [] i y j n = refl
kept-others (x ∷ xs) zero y zero n = absurd (n refl)
kept-others (x ∷ xs) zero y (suc j) n = refl
kept-others (x ∷ xs) (suc i) y zero n = refl
kept-others (x ∷ xs) (suc i) y (suc j) n = kept-others xs i y j (λ e. n (ap suc e))

-- a part of a tuple by its number
pub part-number : (bs : List Bounds) (at : ℕ) → 0 < at → entry_at bs (at - 1) ≡ part_at (row_of bs) at
part-number bs zero l = absurd (omega (arith, l))
part-number bs (suc i) l = let z : suc i - 1 ≡ i = omega arith in ap (entry_at bs) z ∙ sym (part-entry bs i)

-- as many as there are at most
pub first-min : (xs : List Shape) (n : ℕ) → map interval_of (bounds_each (take (min n (length xs)) xs)) ≡ first_intervals n (bounds_each xs)
first-min xs zero = let z : min zero (length xs) ≡ 0 = omega arith in ap (λ k. map interval_of (bounds_each (take k xs))) z
first-min [] (suc n) = let z : min (suc n) 0 ≡ 0 = omega arith in ap (λ k. map interval_of (bounds_each (take {A = Shape} k []))) z
first-min (x ∷ xs) (suc n) =
    let z : min (suc n) (length (x ∷ xs)) ≡ suc (min n (length xs)) = omega arith in
    ap (λ k. map interval_of (bounds_each (take k (x ∷ xs)))) z ∙ ap (λ l. interval_of (bounds_of x) ∷ l) (first-min xs n)

-- there are not as many numbers as dimensions
pub unequal-below : (ds : List Interval) (xs : List Shape) → (length ds ≡ length xs → ⊥) → false ≡ all_below ds (bounds_each xs)
unequal-below [] [] h = absurd (h refl)
unequal-below [] (x ∷ xs) h = refl
unequal-below (d ∷ ds) [] h = refl
unequal-below (d ∷ ds) (x ∷ xs) h = at (is_below (interval_of (bounds_of x)) d) (unequal-below ds xs (λ e. h (ap suc e)))
  where
    at : (b : Bool) → false ≡ all_below ds (bounds_each xs) → false ≡ (b && all_below ds (bounds_each xs))
    at true r = r
    at false r = refl

-- one term more, with its interval
pub numbers-more : (c : Ctx) (ts : List Term) (is : List Interval) (t : Term) (i : Interval) → AreNumbersIn c ts is → IsNumberIn c t i → AreNumbersIn c (ts ++ t ∷ []) (is ++ i ∷ [])
numbers-more c [] [] t i h k = (k, tt)
numbers-more c [] (j ∷ is) t i h k = absurd h
numbers-more c (u ∷ ts) [] t i h k = absurd h
numbers-more c (u ∷ ts) (j ∷ is) t i h k = (h.0, numbers-more c ts is t i h.1 k)

-- the same of exact ones
pub exact-more : (c : Ctx) (ts : List Term) (is : List Interval) (t : Term) (i : Interval) → AreExactNumbers c ts is → IsExactNumber c t i → AreExactNumbers c (ts ++ t ∷ []) (is ++ i ∷ [])
exact-more c [] [] t i h k = (k, tt)
exact-more c [] (j ∷ is) t i h k = absurd h
exact-more c (u ∷ ts) [] t i h k = absurd h
exact-more c (u ∷ ts) (j ∷ is) t i h k = (h.0, exact-more c ts is t i h.1 k)

-- the lower ends of the numbers' intervals
abbrev pub lows_each : List Shape → List ℕ
lows_each xs = lows (map interval_of (bounds_each xs))

-- one shape more has one lower end more
pub lows-more : (xs : List Shape) (x : Shape) → lows_each (xs ++ x ∷ []) ≡ lows_each xs ++ (interval_of (bounds_of x)).low ∷ []
lows-more [] x = refl
lows-more (y ∷ xs) x = ap (λ l. (interval_of (bounds_of y)).low ∷ l) (lows-more xs x)

-- one lower end more in the product, which stops at 2^128-1
pub product-next : (xs : List Shape) (i : ℕ) (x : Shape) (all new : ℕ) → i < length xs → x ≡ get_or xs i x → all ≡ saturate (product (lows_each (take i xs))) →
    new ≡ saturate (all * (interval_of (bounds_of x)).low) → new ≡ saturate (product (lows_each (take (i + 1) xs)))
product-next xs i x all new l e h k =
    let d = (interval_of (bounds_of x)).low in
    let ns = lows_each (take i xs) in
    let m = 2 ^ 128 - 1 in
    k ∙ ap (λ a. min (a * d) m) h ∙ saturating_product (product ns) d m ∙ ap (λ p. min p m) (sym (product-more ns d))
    ∙ ap (λ l. min (product l) m) (sym (lows-more (take i xs) x))
    ∙ ap (λ l. min (product (lows_each l)) m) (ap (λ y. take i xs ++ y ∷ []) e ∙ sym (take_more xs i x l))

-- a number that stops at 2^128-1 is a smaller one exactly where the number itself is
stopped-same : (p n : ℕ) → n < 2 ^ 128 - 1 → nat_eq (saturate p) n ≡ nat_eq p n
stopped-same p n l = elim (eqb_tells p n) as (λ _. nat_eq (saturate p) n ≡ nat_eq p n) [ inl a ↦ eq-eqb (saturate p) n (omega (arith, l, a.1)) ∙ sym a.0 | inr b ↦ other (eqb_tells (saturate p) n) b.1 ∙ sym b.0 ]
  where
    other : ((nat_eq (saturate p) n ≡ true) × (saturate p ≡ n)) ⊎ ((nat_eq (saturate p) n ≡ false) × (saturate p ≡ n → ⊥)) → (p ≡ n → ⊥) → nat_eq (saturate p) n ≡ false
    other (inl a) h = absurd (h (omega (arith, l, a.1)))
    other (inr b) h = b.0

-- dimensions that are single numbers, and as many cells as their product
pub full-is : (xs : List Shape) (rank end : ℕ) (single : Bool) (p count : ℕ) → end ≡ min rank (length xs) → count < 2 ^ 128 - 1 → count ≡ length xs - end →
    single ≡ all_single (map interval_of (bounds_each (take end xs))) → p ≡ saturate (product (lows_each (take end xs))) → (single && nat_eq p count) ≡ is_full rank (bounds_each xs)
full-is xs rank end single p count e l k s h =
    let is = first_intervals rank (bounds_each xs) in
    let z : map interval_of (bounds_each (take end xs)) ≡ is = ap (λ m. map interval_of (bounds_each (take m xs))) e ∙ first-min xs rank in
    let c : count ≡ length (bounds_each xs) - rank = omega (arith, e, k, length-map xs bounds_of) in
    ap (λ b. b && nat_eq p count) (s ∙ ap all_single z)
    ∙ ap (λ b. all_single is && b)
    (ap (λ q. nat_eq q count) (h ∙ ap (λ js. saturate (product (lows js))) z) ∙ stopped-same (product (lows is)) count l ∙ ap (λ m. nat_eq (product (lows is)) m) c)
