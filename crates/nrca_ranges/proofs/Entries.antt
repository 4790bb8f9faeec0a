-- What is known of variables, entry by entry.
use Rattle.std.proofs.Common.{◌≡◌, ℕ, zero, suc, ◌+◌, ◌-◌, ◌<◌, ◌≤◌, nat_lt, List, [], ◌∷◌, ◌++◌, length, map, take, reverse, get_or, refl, sym, ap, ◌∙◌, arith, inl, inr, append_assoc}
use Rattle.std.proofs.lemmas.Bool.{cases_Bool}
use Rattle.std.proofs.lemmas.List.{take_more, map-append, take-map, take_at, length-map, length-reverse, reverse-append, get_or-reverse}
use Rattle.nrca_term.specs.Term.{Form, form_binders}
use Rattle.nrca_ranges.specs.declared.shape.Shape.{Shape}
use Rattle.nrca_ranges.specs.declared.walk.Told.{Told}
use Rattle.nrca_ranges.specs.Bounds.{Bounds, unknown, row_of, entry, Ranges}
use Rattle.nrca_ranges.specs.Shapes.{bounds_of, bounds_each}
use Rattle.nrca_ranges.specs.Transfer.{interval_of, entry_at, index_below, first_intervals, flat, flat_row, own_bounds, variable_bounds}
use Rattle.nrca_ranges.specs.Walk.{summary_of, told_each, each_index, first_shape}
use Rattle.nrca_ranges.proofs.Gathering.{shape-of}
use Rattle.nrca_ranges.proofs.Lists.{entry-there}

-- one index more
pub index-more : (os ss ts : List Shape) (xs : List Told) (i : ℕ) (x : Told) (s : Shape) → i < length xs → x ≡ get_or xs i x → bounds_of s ≡ index_below (interval_of (bounds_of x.shape)) → bounds_each ss ≡ bounds_each os ++ each_index (take i xs) →
    ts ≡ ss ++ s ∷ [] → bounds_each ts ≡ bounds_each os ++ each_index (take (i + 1) xs)
index-more os ss ts xs i x s l e k h z =
    let step : each_index (take (i + 1) xs) ≡ each_index (take i xs) ++ bounds_of s ∷ [] =
    ap each_index (take_more xs i x l ∙ ap (λ y. take i xs ++ y ∷ []) (sym e))
    ∙ ap (λ m. map index_below (map interval_of (map (λ s. s.shape) m))) (map-append summary_of (take i xs) (x ∷ []))
    ∙ ap (λ m. map index_below (map interval_of m)) (map-append (λ s. s.shape) (told_each (take i xs)) (summary_of x ∷ []))
    ∙ ap (map index_below) (map-append interval_of (map (λ s. s.shape) (told_each (take i xs))) ((summary_of x).shape ∷ []))
    ∙ map-append index_below (map interval_of (map (λ s. s.shape) (told_each (take i xs)))) (interval_of (summary_of x).shape ∷ [])
    ∙ ap (λ b. each_index (take i xs) ++ index_below (interval_of b) ∷ []) (shape-of x)
    ∙ ap (λ b. each_index (take i xs) ++ b ∷ []) (sym k) in
    ap bounds_each z ∙ map-append bounds_of ss (s ∷ []) ∙ ap (λ l. l ++ bounds_of s ∷ []) h ∙ append_assoc (bounds_each os) (each_index (take i xs)) (bounds_of s ∷ []) ∙ ap (λ l. bounds_each os ++ l) (sym step)

-- the first of them, as far as they go
pub first-indices : (xs : List Told) (n e : ℕ) → e ≤ n → (e < n → length xs ≤ e) → each_index (take e xs) ≡ map index_below (first_intervals n (map (λ s. s.shape) (told_each xs)))
first-indices xs zero zero l h = refl
first-indices [] (suc n) zero l h = refl
first-indices (x ∷ xs) (suc n) zero l h = absurd (omega (arith, h (omega arith)))
first-indices xs zero (suc e) l h = absurd (omega (arith, l))
first-indices [] (suc n) (suc e) l h = refl
first-indices (x ∷ xs) (suc n) (suc e) l h = ap (λ m. index_below (interval_of (summary_of x).shape) ∷ m) (first-indices xs n e (omega (arith, l)) (λ k. omega (arith, h (omega (arith, k)))))

-- an entry is the one that is got
entry-got : (bs : List Bounds) (i : ℕ) → entry_at bs i ≡ get_or bs i unknown
entry-got [] i = refl
entry-got (b ∷ bs) zero = refl
entry-got (b ∷ bs) (suc i) = entry-got bs i

-- the entry of a list that is read from its end
pub from-end : (bs : List Bounds) (i : ℕ) → i < length bs → variable_bounds bs i ≡ entry_at bs (length bs - 1 - i)
from-end bs i l = entry-got (reverse bs) i ∙ get_or-reverse bs i unknown l ∙ sym (entry-got bs (length bs - 1 - i))

-- past its front there is none
past-end : (bs : List Bounds) (i : ℕ) → length bs ≤ i → entry_at bs i ≡ unknown
past-end [] i l = refl
past-end (b ∷ bs) zero l = absurd (omega (arith, l))
past-end (b ∷ bs) (suc i) l = past-end bs i (omega (arith, l))

pub before-end : (bs : List Bounds) (i : ℕ) → length bs ≤ i → variable_bounds bs i ≡ unknown
before-end bs i l = past-end (reverse bs) i (omega (arith, length-reverse bs, l))

-- an entry of one list behind another
entry-first : (as' bs : List Bounds) (i : ℕ) → i < length as' → entry_at (as' ++ bs) i ≡ entry_at as' i
entry-first [] bs i l = absurd (omega (arith, l))
entry-first (a ∷ as') bs zero l = refl
entry-first (a ∷ as') bs (suc i) l = entry-first as' bs i (omega (arith, l))

entry-second : (as' bs : List Bounds) (i n : ℕ) → i ≡ length as' + n → entry_at (as' ++ bs) i ≡ entry_at bs n
entry-second [] bs i n l = let z : i ≡ n = omega (arith, l) in ap (entry_at bs) z
entry-second (a ∷ as') bs zero n l = absurd (omega (arith, l))
entry-second (a ∷ as') bs (suc i) n l = entry-second as' bs i n (omega (arith, l))

-- a variable of those inside, and one of those outside
pub inner-variable : (xs ys : List Bounds) (i : ℕ) → i < length ys → variable_bounds (xs ++ ys) i ≡ variable_bounds ys i
inner-variable xs ys i l = ap (λ m. entry_at m i) (reverse-append xs ys) ∙ entry-first (reverse ys) (reverse xs) i (omega (arith, length-reverse ys, l))

pub outer-variable : (xs ys : List Bounds) (i n : ℕ) → i ≡ length ys + n → variable_bounds (xs ++ ys) i ≡ variable_bounds xs n
outer-variable xs ys i n l = ap (λ m. entry_at m i) (reverse-append xs ys) ∙ entry-second (reverse ys) (reverse xs) i n (omega (arith, length-reverse ys, l))

-- where a node binds no variable nothing of the parts before is used
pub own-none : (f : Form) (i : ℕ) (xs ys : List Bounds) → form_binders f i ≡ 0 → own_bounds f i xs ≡ own_bounds f i ys
own-none (Form.var n) i xs ys e = refl
own-none (Form.global n) i xs ys e = refl
own-none Form.bind zero xs ys e = refl
own-none Form.bind (suc i) xs ys e = absurd (omega (arith, e))
own-none Form.choose i xs ys e = refl
own-none Form.default i xs ys e = refl
own-none Form.big_union zero xs ys e = refl
own-none Form.big_union (suc i) xs ys e = absurd (omega (arith, e))
own-none Form.sum zero xs ys e = refl
own-none Form.sum (suc i) xs ys e = absurd (omega (arith, e))
own-none (Form.tab rank) i xs ys e =
    elim (cases_Bool (nat_lt i rank)) [
      | inl h ↦ rw h refl
      | inr h ↦ rw h (let z : rank ≡ 0 = rw h at e in ap (λ n. map index_below (first_intervals n xs)) z ∙ ap (λ n. map index_below (first_intervals n ys)) (sym z))
    ]
own-none (Form.strict s) i xs ys e = refl

-- what is known of values, with a list of variables' shapes
abbrev pub ranges_with : Ranges → List Bounds → Ranges
ranges_with gs l = record { positions = gs.positions; variables = l }

-- what is kept of the variables is kept of their shapes
pub ranges-taken : (gs : Ranges) (xs ys : List Shape) (n : ℕ) → ys ≡ take n xs → ranges_with gs (bounds_each ys) ≡ ranges_with gs (take n (bounds_each xs))
ranges-taken gs xs ys n e = ap (ranges_with gs) (ap bounds_each e ∙ sym (take-map bounds_of n xs))

-- what was added is taken back
pub ranges-back : (gs : Ranges) (xs ys : List Shape) (A : List Bounds) (n : ℕ) → n ≡ length xs → bounds_each ys ≡ bounds_each xs ++ A → ranges_with gs (take n (bounds_each ys)) ≡ ranges_with gs (bounds_each xs)
ranges-back gs xs ys A n e h = ap (ranges_with gs) (ap (take n) h ∙ take_at (bounds_each xs) A n (length-map xs bounds_of ∙ sym e))

-- the numbers among the parts of a tuple
pub flat-row : (bs : List Bounds) → flat_row (row_of bs) ≡ row_of (map flat bs)
flat-row [] = refl
flat-row (b ∷ bs) = ap (entry (flat b)) (flat-row bs)

-- the first shape that is told
pub first-there : (xs : List Told) (x : Told) → 0 < length xs → first_shape xs ≡ bounds_of (get_or xs 0 x).shape
first-there [] x l = absurd (omega (arith, l))
first-there (y ∷ xs) x l = shape-of y

pub first-absent : (xs : List Told) → length xs ≤ 0 → first_shape xs ≡ unknown
first-absent [] l = refl
first-absent (y ∷ xs) l = absurd (omega (arith, l))

-- the shape that is read from the end of a list
pub shape-from-end : (xs : List Shape) (i n : ℕ) (x : Shape) → i < length xs → n ≡ length xs - 1 - i → x ≡ get_or xs n x → bounds_of x ≡ variable_bounds (bounds_each xs) i
shape-from-end xs i n x l e k =
    let m : length (bounds_each xs) ≡ length xs = length-map xs bounds_of in
    let z : n ≡ length (bounds_each xs) - 1 - i = omega (arith, m, e) in
    entry-there xs n x (omega (arith, l, e)) k ∙ ap (entry_at (bounds_each xs)) z ∙ sym (from-end (bounds_each xs) i (omega (arith, m, l)))

pub shape-before-end : (xs : List Shape) (i : ℕ) → length xs ≤ i → variable_bounds (bounds_each xs) i ≡ unknown
shape-before-end xs i l = before-end (bounds_each xs) i (omega (arith, length-map xs bounds_of, l))
