-- The indices of an array, in row-major order: each is below the dimensions, and stands at its place.
use Rattle.std.specs.Prelude.{◌≡◌, ℕ, zero, suc, ◌+◌, ◌*◌, ◌-◌, ◌<◌, ◌≤◌, Bool, true, false, cond, ◌&&◌, nat_lt, List, [], ◌∷◌, length, map, Option, Some, None, refl}
use Rattle.std.proofs.Common.{sym, ap, ◌∙◌, arith, inl, inr, true≢false}
use Rattle.std.specs.Option.{option_map}
use Rattle.std.specs.List.{flat_map, range_with_len, slice_get}
use Rattle.std.specs.Cmp.Lexicographic.{pointwise}
use Rattle.std.proofs.lemmas.List.{length-map}
use Rattle.std.proofs.lemmas.Bool.{ltb-true, lt-ltb, cases_lt, cases_Bool}
use Rattle.std.proofs.lemmas.Option.{slice_get_within, slice_get-map}
use Rattle.std.proofs.Math.Nat.{zero-mul}
use Rattle.aql_value.specs.Datum.{Datum, Table}
use Rattle.aql_value.specs.Indices.{product, indices, cell, offset_of, offset}
use Rattle.aql_value.specs.Laws.Indices.{length_indices, paired_is}
use Rattle.aql_value.specs.Lists.{Every, below}
use Rattle.aql_value.specs.Laws.Lists.{Every-append, Every-onto, Every-impl, flat_map-concat, slice_get-append_left, slice_get-append_right}
use Rattle.aql_value.specs.Partial.{◌>>=◌, each, concat}
use Rattle.aql_value.specs.Laws.Partial.{each-get}

-- the indices of one dimension more: each number below it before each index of the rest
pub indices-cons : (d : ℕ) (ds : List ℕ) → indices (d ∷ ds) ≡ concat (map (λ i. map (λ at. i ∷ at) (indices ds)) (below d))
unfolding indices
indices-cons d ds = flat_map-concat (λ i. map (λ at. i ∷ at) (indices ds)) (below d)

abbrev blocks : List (List ℕ) → ℕ → ℕ → List (List ℕ)
blocks xs a n = flat_map (λ i. map (λ at. i ∷ at) xs) (range_with_len a n)

below_blocks : (xs : List (List ℕ)) (ds : List ℕ) (d a n : ℕ) → a + n ≡ d → Every (λ at. pointwise nat_lt at ds ≡ true) xs → Every (λ at. pointwise nat_lt at (d ∷ ds) ≡ true) (blocks xs a n)
below_blocks xs ds d a zero e h = tt
below_blocks xs ds d a (suc n) e h =
    Every-append (λ at. pointwise nat_lt at (d ∷ ds) ≡ true) (map (λ at. a ∷ at) xs) (blocks xs (a + 1) n)
    (Every-onto (λ at. pointwise nat_lt at (d ∷ ds) ≡ true) (λ at. a ∷ at) xs
    (Every-impl (λ at. pointwise nat_lt at ds ≡ true) (λ at. pointwise nat_lt (a ∷ at) (d ∷ ds) ≡ true) (λ at k j. lt-ltb a d (omega (arith, e)) j && k j) xs h))
    (below_blocks xs ds d (a + 1) n (omega (arith, e)) h)

-- each index is below the dimensions
pub indices_below : (ds : List ℕ) → Every (λ at. pointwise nat_lt at ds ≡ true) (indices ds)
unfolding indices
indices_below [] = (refl, tt)
indices_below (d ∷ ds) = below_blocks (indices ds) ds d 0 d (omega arith) (indices_below ds)

-- as many numbers as dimensions
pub length_below : (at ds : List ℕ) → pointwise nat_lt at ds ≡ true → length at ≡ length ds
length_below [] [] e = refl
length_below [] (d ∷ ds) e = absurd (true≢false (sym e))
length_below (i ∷ at) [] e = absurd (true≢false (sym e))
length_below (i ∷ at) (d ∷ ds) e = ap suc (length_below at ds (second (nat_lt i d) (pointwise nat_lt at ds) e))
  where
    second : (a b : Bool) → (a && b) ≡ true → b ≡ true
    second true b k = k
    second false b k = absurd (true≢false (sym k))

pub indices_lengths : (ds : List ℕ) → Every (λ at. length at ≡ length ds) (indices ds)
indices_lengths ds = Every-impl (λ at. pointwise nat_lt at ds ≡ true) (λ at. length at ≡ length ds) (λ at. length_below at ds) (indices ds) (indices_below ds)

-- the place is the sum of the numbers times the cells behind each
pub offset_of-is : (ds at : List ℕ) → offset_of ds at ≡ cond (pointwise nat_lt at ds) (Some (offset ds at)) None
offset_of-is [] [] = refl
offset_of-is [] (i ∷ at) = refl
offset_of-is (d ∷ ds) [] = refl
offset_of-is (d ∷ ds) (i ∷ at) = rw (offset_of-is ds at) (by (nat_lt i d) (pointwise nat_lt at ds))
  where
    by : (a b : Bool) → cond a (option_map (λ p. i * product ds + p) (cond b (Some (offset ds at)) None)) None ≡ cond (a && b) (Some (i * product ds + offset ds at)) None
    by true true = refl
    by true false = refl
    by false b = refl

-- a cell is found by the place of its index
pub cell-offset_of : (t : Table) (at : List ℕ) → cell t at ≡ (offset_of t.dims at >>= slice_get t.cells)
cell-offset_of t at = paired_is t.dims at t.cells ∙ rw (offset_of-is t.dims at) (by (pointwise nat_lt at t.dims))
  where
    by : (b : Bool) → cond b (slice_get t.cells (offset t.dims at)) None ≡ (cond b (Some (offset t.dims at)) None >>= slice_get t.cells)
    by true = refl
    by false = refl

in_block : (xs : List (List ℕ)) (a n k q : ℕ) (at : List ℕ) → k < n → slice_get xs q ≡ Some at → slice_get (blocks xs a n) (k * length xs + q) ≡ Some ((a + k) ∷ at)
in_block xs a zero k q at l e = absurd (omega (arith, l))
in_block xs a (suc n) zero q at l e =
    (let z : 0 * length xs + q ≡ q = omega (arith, zero-mul (length xs)) in ap (slice_get (blocks xs a (suc n))) z)
    ∙ slice_get-append_left (map (λ r. a ∷ r) xs) (blocks xs (a + 1) n) q (omega (arith, length-map xs (λ r. a ∷ r), slice_get_within xs q at e))
    ∙ slice_get-map (λ r. a ∷ r) xs q ∙ ap (option_map (λ r. a ∷ r)) e
    ∙ (let z : a ≡ a + 0 = omega arith in ap (λ b. Some (b ∷ at)) z)
in_block xs a (suc n) (suc k) q at l e =
    slice_get-append_right (map (λ r. a ∷ r) xs) (blocks xs (a + 1) n) (suc k * length xs + q) (omega (arith, length-map xs (λ r. a ∷ r)))
    ∙ (let z : suc k * length xs + q - length (map (λ r. a ∷ r) xs) ≡ k * length xs + q = omega (arith, length-map xs (λ r. a ∷ r)) in ap (slice_get (blocks xs (a + 1) n)) z)
    ∙ in_block xs (a + 1) n k q at (omega (arith, l)) e
    ∙ (let z : a + 1 + k ≡ a + suc k = omega arith in ap (λ b. Some (b ∷ at)) z)

-- the index at a place in row-major order is the one whose place it is
pub row_major : (ds at : List ℕ) (p : ℕ) → offset_of ds at ≡ Some p → slice_get (indices ds) p ≡ Some at
unfolding indices
row_major [] [] p e = let z : 0 ≡ p = cc in ap (slice_get ([] ∷ [])) (sym z)
row_major [] (i ∷ at) p e = cc
row_major (d ∷ ds) [] p e = cc
row_major (d ∷ ds) (i ∷ at) p e = by (row_major ds at) (nat_lt i d) (offset_of ds at) refl refl e
  where
    by : ((q : ℕ) → offset_of ds at ≡ Some q → slice_get (indices ds) q ≡ Some at) → (b : Bool) (o : Option ℕ) → nat_lt i d ≡ b → offset_of ds at ≡ o → cond b (option_map (λ q. i * product ds + q) o) None ≡ Some p → slice_get (indices (d ∷ ds)) p ≡ Some (i ∷ at)
    by ih false o f g k = cc
    by ih true None f g k = cc
    by ih true (Some q) f g k =
        let z : i * product ds + q ≡ p = cc in
        ap (slice_get (indices (d ∷ ds))) (sym z ∙ ap (λ m. i * m + q) (sym (length_indices ds)))
        ∙ in_block (indices ds) 0 d i q at (ltb-true i d f) (ih q g)
        ∙ (let y : 0 + i ≡ i = omega arith in ap (λ b. Some (b ∷ at)) y)

-- an index in a list of blocks stands in one of them
from_block : (xs : List (List ℕ)) (a n p : ℕ) (at : List ℕ) → slice_get (blocks xs a n) p ≡ Some at →
    (k q : ℕ) × (rest : List ℕ) × (k < n) × (p ≡ k * length xs + q) × (at ≡ (a + k) ∷ rest) × (slice_get xs q ≡ Some rest)
from_block xs a zero p at e = cc
from_block xs a (suc n) p at e =
    elim (cases_lt p (length xs)) as (λ _. (k q : ℕ) × (rest : List ℕ) × (k < suc n) × (p ≡ k * length xs + q) × (at ≡ (a + k) ∷ rest) × (slice_get xs q ≡ Some rest)) [
      | inl h ↦ here h
      | inr h ↦ there (from_block xs (a + 1) n) h
    ]
  where
    here : p < length xs → (k q : ℕ) × (rest : List ℕ) × (k < suc n) × (p ≡ k * length xs + q) × (at ≡ (a + k) ∷ rest) × (slice_get xs q ≡ Some rest)
    here h =
        let m = sym (slice_get-map (λ r. a ∷ r) xs p) ∙ sym (slice_get-append_left (map (λ r. a ∷ r) xs) (blocks xs (a + 1) n) p (omega (arith, length-map xs (λ r. a ∷ r), h))) ∙ e in
        let r = mapped (slice_get xs p) m in
        (0, p, r.0, omega arith, omega (arith, zero-mul (length xs)), r.2 ∙ (let z : a ≡ a + 0 = omega arith in ap (λ b. b ∷ r.0) z), r.1)
      where
        mapped : (o : Option (List ℕ)) → option_map (λ r. a ∷ r) o ≡ Some at → (rest : List ℕ) × (o ≡ Some rest) × (at ≡ a ∷ rest)
        mapped None k = cc
        mapped (Some rest) k = let z : at ≡ a ∷ rest = cc in (rest, refl, z)

    there : ((r : ℕ) (ix : List ℕ) → slice_get (blocks xs (a + 1) n) r ≡ Some ix →
        (k q : ℕ) × (rest : List ℕ) × (k < n) × (r ≡ k * length xs + q) × (ix ≡ (a + 1 + k) ∷ rest) × (slice_get xs q ≡ Some rest)) → length xs ≤ p → (k q : ℕ) × (rest : List ℕ) × (k < suc n) × (p ≡ k * length xs + q) × (at ≡ (a + k) ∷ rest) × (slice_get xs q ≡ Some rest)
    there ih h =
        let l = length-map xs (λ r. a ∷ r) in
        let m = sym (slice_get-append_right (map (λ r. a ∷ r) xs) (blocks xs (a + 1) n) p (omega (arith, l, h))) ∙ e in
        let r = ih (p - length (map (λ r. a ∷ r) xs)) at m in
        (suc r.0, r.1, r.2, omega (arith, r.3), omega (arith, r.4, l, h), r.5 ∙ (let z : a + 1 + r.0 ≡ a + suc r.0 = omega arith in ap (λ b. b ∷ r.2) z), r.6)

-- the place of the index that stands at a place in row-major order is that place
pub place_of_index : (ds at : List ℕ) (p : ℕ) → slice_get (indices ds) p ≡ Some at → offset_of ds at ≡ Some p
unfolding indices
place_of_index [] at zero e = let z : at ≡ [] = cc in ap (offset_of []) z
place_of_index [] at (suc p) e = cc
place_of_index (d ∷ ds) at p e =
    let r = from_block (indices ds) 0 d p at e in
    let ih = place_of_index ds r.2 r.1 r.6 in
    let k : 0 + r.0 ≡ r.0 = omega arith in
    ap (offset_of (d ∷ ds)) (r.5 ∙ ap (λ b. b ∷ r.2) k)
    ∙ rw (lt-ltb r.0 d r.3, ih) (ap Some (ap (λ m. r.0 * m + r.1) (sym (length_indices ds)) ∙ sym r.4))

-- a place is below the number of cells
pub offset_of_within : (ds at : List ℕ) (p : ℕ) → offset_of ds at ≡ Some p → p < product ds
offset_of_within ds at p e = omega (arith, length_indices ds, slice_get_within (indices ds) p at (row_major ds at p e))

-- an index below the dimensions has a place
pub offset_of_below : (ds at : List ℕ) → pointwise nat_lt at ds ≡ true → offset_of ds at ≡ Some (offset ds at)
offset_of_below ds at e = offset_of-is ds at ∙ rw e refl

-- the cell at an index of an array that is made by a function of the index
pub cell_made : (f : List ℕ → Option Datum) (ds : List ℕ) (cells : List Datum) (at : List ℕ) → each f (indices ds) ≡ Some cells →
    cell (record { dims = ds; cells = cells }) at ≡ cond (pointwise nat_lt at ds) (f at) None
cell_made f ds cells at e =
    cell-offset_of (record { dims = ds; cells = cells }) at
    ∙ elim (cases_Bool (pointwise nat_lt at ds)) as (λ _. (offset_of ds at >>= slice_get cells) ≡ cond (pointwise nat_lt at ds) (f at) None) [
      | inl b ↦ rw (offset_of_below ds at b, b) (each-get f (indices ds) cells (offset ds at) at e (row_major ds at (offset ds at) (offset_of_below ds at b)))
      | inr b ↦ rw (offset_of-is ds at, b) refl
    ]
