-- The arithmetic of places and products of dimensions.
use Rattle.std.proofs.Common.{◌≡◌, ℕ, ◌+◌, ◌*◌, ◌<◌, ◌≤◌, Bool, true, false, ◌&&◌, nat_lt, length, List, [], ◌∷◌, map, cond, drop, get_or, refl, sym, ap, ◌∙◌, arith, true≢false}
use Rattle.std.specs.Prelude.{Option, Some, None, is_some}
use Rattle.std.specs.Option.{option_map, unwrap_or}
use Rattle.std.specs.List.{slice_get}
use Rattle.std.specs.Cmp.Lexicographic.{pointwise}
use Rattle.std.proofs.lemmas.List.{drop_more, length-map}
use Rattle.std.proofs.lemmas.Bool.{ltb-true, ltb-false}
use Rattle.std.proofs.lemmas.Option.{slice_get_past, slice_get-get_or, slice_get-map}
use Rattle.std.proofs.Math.Nat.{mul-le-mul_left, mul-le-mul_right}
use Rattle.aql_value.specs.Datum.{Datum, Table}
use Rattle.aql_value.specs.Meaning.{datum}
use Rattle.aql_value.specs.declared.value.Value.{Value}
use Rattle.aql_value.specs.Indices.{product, cell, offset}
use Rattle.aql_value.specs.Laws.Indices.{paired_is}

both_true : (a b : Bool) → (a && b) ≡ true → (a ≡ true) × (b ≡ true)
both_true true b e = (refl, e)
both_true false b e = (e, absurd (true≢false (sym e)))

-- an index below the dimensions has a place below their product
pub offset_below : (ds at : List ℕ) → pointwise nat_lt at ds ≡ true → offset ds at < product ds
offset_below [] [] e = omega arith
offset_below [] (i ∷ at) e = absurd (true≢false (sym e))
offset_below (d ∷ ds) [] e = absurd (true≢false (sym e))
offset_below (d ∷ ds) (i ∷ at) e =
    let both = both_true (nat_lt i d) (pointwise nat_lt at ds) e in
    let small : i + 1 ≤ d = omega (arith, ltb-true i d both.0) in
    omega (arith, mul-le-mul_right (product ds) small, offset_below ds at both.1)

below_now : (ds at : List ℕ) (j : ℕ) → j < length ds → j < length at → pointwise nat_lt (drop j at) (drop j ds) ≡ true → pointwise nat_lt (drop (j + 1) at) (drop (j + 1) ds) ≡ true
below_now ds at j h k e =
    (both_true (nat_lt (get_or at j 0) (get_or ds j 0)) _ (sym (λ i. pointwise nat_lt (drop_more at j 0 k i) (drop_more ds j 0 h i)) ∙ e)).1

-- a step of Horner's rule stays within the last place
pub horner_fits : (ds at : List ℕ) (j p n m : ℕ) → j < length ds → j < length at → pointwise nat_lt (drop j at) (drop j ds) ≡ true → p * product (drop j ds) + offset (drop j ds) (drop j at) ≡ n → n < m → p * get_or ds j 0 + get_or at j 0 < m
horner_fits ds at j p n m h k e f g =
    let d = get_or ds j 0 in
    let i = get_or at j 0 in
    let all = product (drop (j + 1) ds) in
    let rest = offset (drop (j + 1) ds) (drop (j + 1) at) in
    let some : 1 ≤ all = omega (arith, offset_below (drop (j + 1) ds) (drop (j + 1) at) (below_now ds at j h k e)) in
    let now : p * (d * all) + (i * all + rest) ≡ n = sym (λ l. p * product (drop_more ds j 0 h l) + offset (drop_more ds j 0 h l) (drop_more at j 0 k l)) ∙ f in
    omega (arith, mul-le-mul_left (p * d + i) some, now)

-- what `get` answers, by `slice_get`
pub got : {A B : Type 0} (f : A → B) (r : Option A) (xs : List B) (k : ℕ) → is_some r ≡ nat_lt k (length xs) → ((d : B) → unwrap_or (option_map f r) d ≡ get_or xs k d) → option_map f r ≡ slice_get xs k
got f None xs k e h = sym (slice_get_past xs k (ltb-false k (length xs) (sym e)))
got f (Some x) xs k e h = ap Some (h (f x)) ∙ sym (slice_get-get_or xs k (f x) (ltb-true k (length xs) (sym e)))

pub map_map : {A B C : Type 0} (f : A → B) (g : B → C) (r : Option A) → option_map (λ x. g (f x)) r ≡ option_map g (option_map f r)
map_map f g None = refl
map_map f g (Some x) = refl

-- the cell at an index, found by its place
module _ (t : Table) (ds at is : List ℕ) (vs : List Value) (p : ds ≡ t.dims) (q : is ≡ at) (r : map datum vs ≡ t.cells) where
  abbrev cell_by : Bool → Option Datum
  cell_by b = cond b (slice_get t.cells (offset t.dims at)) None

  pub cell_inside : (k : ℕ) → true ≡ pointwise nat_lt is ds → k ≡ offset ds is → option_map datum (slice_get vs k) ≡ cell t at
  cell_inside k e f =
      sym (slice_get-map datum vs k)
      ∙ (λ i. slice_get (r i) ((f ∙ (λ j. offset (p j) (q j))) i))
      ∙ ap cell_by (e ∙ (λ i. pointwise nat_lt (q i) (p i)))
      ∙ sym (paired_is t.dims at t.cells)

  pub cell_outside : false ≡ pointwise nat_lt is ds → None ≡ cell t at
  cell_outside e = ap cell_by (e ∙ (λ i. pointwise nat_lt (q i) (p i))) ∙ sym (paired_is t.dims at t.cells)

  pub place_within : true ≡ pointwise nat_lt is ds → product t.dims ≡ length t.cells → offset ds is < length vs
  place_within e f =
      let g : product ds ≡ product t.dims = ap product p in
      let h : length vs ≡ length t.cells = sym (length-map vs datum) ∙ ap length r in
      omega (arith, offset_below ds is (sym e), f, g, h)
