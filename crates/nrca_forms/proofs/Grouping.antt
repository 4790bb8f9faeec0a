-- The values paired with each index, as pairs come.
use Rattle.std.proofs.Common.{◌≡◌, ℕ, zero, suc, ◌<◌, true, false, List, [], ◌∷◌, ◌++◌, length, map, Some, refl, sym, ◌∙◌, ap, arith}
use Rattle.std.specs.Prelude.{nat_eq, nat_lt, slice_get, replicate, if◌then◌else◌}
use Rattle.std.specs.List.{filter}
use Rattle.std.specs.Cmp.Lexicographic.{pointwise, bytes_decides}
use Rattle.std.proofs.Math.ListN.{set}
use Rattle.std.proofs.lemmas.Bool.{cases_Bool}
use Rattle.std.specs.Option.{option_map}
use Rattle.std.proofs.lemmas.Option.{slice_get-map, get_or_from_slice_get}
use Rattle.std.proofs.Common.{inl, inr}
use Rattle.std.proofs.lemmas.List.{map-append, append-nil}
use Rattle.std.proofs.lemmas.List.Elements.{filter-append}
use Rattle.aql_value.specs.Datum.{Datum}
use Rattle.aql_value.specs.Indices.{product, indices, offset_of, offset}
use Rattle.aql_value.specs.Laws.Lists.{Every-get}
use Rattle.aql_value.specs.Operations.{values_at}
use Rattle.aql_value.specs.Laws.RowMajor.{place_of_index, indices_below, row_major, offset_of_below, offset_of_within}
use Rattle.nrca_forms.specs.Indexing.{push_group, put_group}

same_index : (xs ys : List ℕ) → pointwise nat_eq xs ys ≡ true → xs ≡ ys
same_index xs ys h = (bytes_decides xs ys).0 h

-- the values of one pair more: at its index, and at another
pub values_more : (at : List ℕ) (ps : List (List ℕ × Datum)) (v : Datum) → values_at at (ps ++ (at, v) ∷ []) ≡ values_at at ps ++ v ∷ []
values_more at ps v =
    ap (map (λ p. p.1)) (filter-append (λ p. pointwise nat_eq at p.0) ps ((at, v) ∷ []) ∙ rw ((bytes_decides at at).1 refl) refl)
    ∙ map-append (λ p. p.1) (filter (λ p. pointwise nat_eq at p.0) ps) ((at, v) ∷ [])

pub values_other : (at : List ℕ) (ps : List (List ℕ × Datum)) (p : List ℕ × Datum) → pointwise nat_eq at p.0 ≡ false → values_at at (ps ++ p ∷ []) ≡ values_at at ps
values_other at ps p h =
    ap (map (λ p. p.1)) (filter-append (λ p. pointwise nat_eq at p.0) ps (p ∷ []) ∙ rw h (append-nil (filter (λ p. pointwise nat_eq at p.0) ps)))

-- a list of images with another one at one place
module _ {A B : Type 0} (f g : A → B) where
  pub map_same : (xs : List A) → ((j : ℕ) (y : A) → slice_get xs j ≡ Some y → f y ≡ g y) → map f xs ≡ map g xs
  map_same [] h = refl
  map_same (x ∷ xs) h = (λ i. h 0 x refl i ∷ map_same xs (λ j y e. h (suc j) y e) i)

  pub map_put : (xs : List A) (k : ℕ) (x : A) → slice_get xs k ≡ Some x → ((j : ℕ) (y : A) → slice_get xs j ≡ Some y → (j ≡ k → ⊥) → f y ≡ g y) → set (map f xs) k (g x) ≡ map g xs
  map_put [] k x e h = cc
  map_put (y ∷ xs) zero x e h =
      let z : y ≡ x = cc in
      (λ i. g (sym z i) ∷ map_same xs (λ j w d. h (suc j) w d (λ q. cc)) i)
  map_put (y ∷ xs) (suc k) x e h =
      (λ i. h 0 y refl (λ q. cc) i ∷ map_put xs k x e (λ j w d n. h (suc j) w d (λ q. n (let r : j ≡ k = omega (arith, q) in r))) i)

module _ (ds : List ℕ) (ps : List (List ℕ × Datum)) (at : List ℕ) (v : Datum) where
  -- an index at another place is another index
  other : (p : ℕ) → offset_of ds at ≡ Some p → (j : ℕ) (y : List ℕ) → slice_get (indices ds) j ≡ Some y → (j ≡ p → ⊥) → pointwise nat_eq y at ≡ false
  other p o j y e n =
      elim (cases_Bool (pointwise nat_eq y at)) [
        | inl t ↦
            let same : y ≡ at = same_index y at t in
            let k : Some j ≡ Some p = sym (place_of_index ds y j e) ∙ ap (offset_of ds) same ∙ o in
            absurd (n (let r : j ≡ p = cc in r))
        | inr f ↦ f
      ]

  -- a pair whose index is below the dimensions
  pub grouped_more : (p : ℕ) → pointwise nat_lt at ds ≡ true → p ≡ offset ds at →
      set (map (λ a. values_at a ps) (indices ds)) p (values_at at ps ++ v ∷ []) ≡ map (λ a. values_at a (ps ++ (at, v) ∷ [])) (indices ds)
  grouped_more p b e =
      let o : offset_of ds at ≡ Some p = offset_of_below ds at b ∙ ap Some (sym e) in
      ap (set (map (λ a. values_at a ps) (indices ds)) p) (sym (values_more at ps v))
      ∙ map_put (λ a. values_at a ps) (λ a. values_at a (ps ++ (at, v) ∷ [])) (indices ds) p at (row_major ds at p o)
      (λ j y d n. sym (values_other y ps (at, v) (other p o j y d n)))

  -- a pair whose index is not
  pub grouped_same : pointwise nat_lt at ds ≡ false → map (λ a. values_at a ps) (indices ds) ≡ map (λ a. values_at a (ps ++ (at, v) ∷ [])) (indices ds)
  grouped_same b =
      map_same (λ a. values_at a ps) (λ a. values_at a (ps ++ (at, v) ∷ [])) (indices ds) (λ j y d.
      sym (values_other y ps (at, v) (elim (cases_Bool (pointwise nat_eq y at)) [
        | inl t ↦
            let inside : pointwise nat_lt y ds ≡ true = Every-get (λ a. pointwise nat_lt a ds ≡ true) (indices ds) j y (indices_below ds) d in
            absurd (let w : true ≡ false = sym inside ∙ ap (λ a. pointwise nat_lt a ds) (same_index y at t) ∙ b in cc)
        | inr f ↦ f
      ])))

  -- the values so far at the place of an index
  pub group_at : (p : ℕ) → pointwise nat_lt at ds ≡ true → p ≡ offset ds at → slice_get (map (λ a. values_at a ps) (indices ds)) p ≡ Some (values_at at ps)
  group_at p b e =
      let o : offset_of ds at ≡ Some p = offset_of_below ds at b ∙ ap Some (sym e) in
      slice_get-map (λ a. values_at a ps) (indices ds) p ∙ ap (option_map (λ a. values_at a ps)) (row_major ds at p o)

-- no pairs yet
pub no_groups : (n : ℕ) (xs : List (List ℕ)) → n ≡ length xs → replicate n [] ≡ map (λ at. values_at at []) xs
no_groups zero [] e = refl
no_groups zero (x ∷ xs) e = absurd (omega (arith, e))
no_groups (suc n) [] e = absurd (omega (arith, e))
no_groups (suc n) (x ∷ xs) e = ap (λ l. [] ∷ l) (no_groups n xs (omega (arith, e)))

-- an index below the dimensions has a place
pub offset_within : (ds at : List ℕ) → pointwise nat_lt at ds ≡ true → offset ds at < product ds
offset_within ds at h = offset_of_within ds at (offset ds at) (offset_of_below ds at h)

-- the groups of one pair more
pub put_grouped : (ds at : List ℕ) (v : Datum) (ps : List (List ℕ × Datum)) → put_group ds at v (map (λ a. values_at a ps) (indices ds)) ≡ map (λ a. values_at a (ps ++ (at, v) ∷ [])) (indices ds)
put_grouped ds at v ps =
    let groups = map (λ (a : List ℕ). values_at a ps) (indices ds) in
    elim (cases_Bool (pointwise nat_lt at ds)) [
      | inl b ↦
          ap (λ t. if t then push_group (offset ds at) v groups else groups) b
          ∙ ap (λ g. set groups (offset ds at) (g ++ v ∷ [])) (get_or_from_slice_get groups (offset ds at) (values_at at ps) [] (group_at ds ps at v (offset ds at) b refl))
          ∙ grouped_more ds ps at v (offset ds at) b refl
      | inr b ↦ ap (λ t. if t then push_group (offset ds at) v groups else groups) b ∙ grouped_same ds ps at v b
    ]
