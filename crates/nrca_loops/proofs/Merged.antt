-- The least member that is left of two ascending lists.
use Rattle.std.proofs.Common.{◌≡◌, ℕ, zero, suc, ◌+◌, ◌<◌, ◌≤◌, true, false, List, [], ◌∷◌, ◌++◌, length, drop, get_or, Some, None, refl, sym, ◌∙◌, ap, arith}
use Rattle.std.specs.Prelude.{slice_get}
use Rattle.std.specs.declared.cmp.Ordering.TheVariants.{Less, Equal, Greater}
use Rattle.std.proofs.lemmas.List.{append-nil, length-drop}
use Rattle.std.proofs.lemmas.Option.{slice_get-get_or, slice_get_within}
use Rattle.aql_value.specs.Canon.{IsAscending, canon}
use Rattle.aql_value.specs.Datum.{Datum, natural}
use Rattle.aql_value.specs.Order.{datum_cmp}
use Rattle.aql_value.specs.Partial.{◌>>=◌}
use Rattle.nrca_sets.specs.Places.{order_to, places_order}
use Rattle.aql_value.specs.Laws.Set.{canon_merge-less, canon_merge-equal, canon_merge-greater, canon_ascending_cons, ascending_tail}
use Rattle.nrca_loops.specs.Walks.{both_rest, first_order, TakesLeast}

pub drop_there : (xs : List Datum) (i : ℕ) (x : Datum) → slice_get xs i ≡ Some x → drop i xs ≡ x ∷ drop (i + 1) xs
drop_there [] i x e = cc
drop_there (y ∷ xs) zero x e = let z : y ≡ x = cc in ap (λ w. w ∷ xs) z
drop_there (y ∷ xs) (suc i) x e = drop_there xs i x e ∙ (let z : suc i + 1 ≡ suc (i + 1) = omega arith in ap (λ n. x ∷ drop n (y ∷ xs)) (sym z))

pub drop_past : (xs : List Datum) (i : ℕ) → length xs ≤ i → drop i xs ≡ []
drop_past [] zero h = refl
drop_past [] (suc i) h = refl
drop_past (x ∷ xs) zero h = absurd (omega (arith, h))
drop_past (x ∷ xs) (suc i) h = drop_past xs i (omega (arith, h))

-- an element and the rest from a place on
pub drop_is : (xs : List Datum) (i : ℕ) (x : Datum) (rest : List Datum) → drop i xs ≡ x ∷ rest → (slice_get xs i ≡ Some x) × (drop (i + 1) xs ≡ rest) × (i < length xs)
drop_is [] zero x rest e = cc
drop_is [] (suc i) x rest e = cc
drop_is (y ∷ xs) zero x rest e = (let z : y ≡ x = cc in ap Some z, let z : xs ≡ rest = cc in z, omega arith)
drop_is (y ∷ xs) (suc i) x rest e =
    let r = drop_is xs i x rest e in
    (r.0, (let z : suc i + 1 ≡ suc (i + 1) = omega arith in ap (λ n. drop n (y ∷ xs)) z) ∙ r.1, omega (arith, r.2))

ascending_drop : (xs : List Datum) (i : ℕ) → IsAscending xs → IsAscending (drop i xs)
ascending_drop xs zero a = a
ascending_drop [] (suc i) a = a
ascending_drop (x ∷ xs) (suc i) a = ascending_drop xs i (ascending_tail x xs a)

-- the order of the next elements
pub order_both : (xs ys : List Datum) (i j : ℕ) (x y : Datum) → slice_get xs i ≡ Some x → slice_get ys j ≡ Some y → Some (datum_cmp x y) ≡ first_order (drop i xs) (drop j ys)
order_both xs ys i j x y e f = (λ k. first_order (sym (drop_there xs i x e) k) (sym (drop_there ys j y f) k))

pub order_places : (xs ys : List Datum) (i j : ℕ) → i < length xs → j < length ys → places_order xs i ys j ≡ first_order (drop i xs) (drop j ys)
order_places xs ys i j h l =
    let x = get_or xs i (natural 0) in
    let y = get_or ys j (natural 0) in
    let e = slice_get-get_or xs i (natural 0) h in
    let f = slice_get-get_or ys j (natural 0) l in
    ap (λ o. o >>= λ z. order_to z ys j) e ∙ ap (λ o. o >>= λ z. Some (datum_cmp x z)) f ∙ order_both xs ys i j x y e f

pub order_left : (xs ys : List Datum) (i j : ℕ) → i < length xs → length ys ≤ j → Some Less ≡ first_order (drop i xs) (drop j ys)
order_left xs ys i j h l = go (drop i xs) refl ∙ ap (first_order (drop i xs)) (sym (drop_past ys j l))
  where
    go : (ls : List Datum) → drop i xs ≡ ls → Some Less ≡ first_order (drop i xs) []
    go [] e = absurd (omega (arith, h, ap length e, length-drop i xs))
    go (a ∷ ls) e = ap (λ l. first_order l []) (sym e)

pub order_right : (xs ys : List Datum) (i j : ℕ) → length xs ≤ i → j < length ys → Some Greater ≡ first_order (drop i xs) (drop j ys)
order_right xs ys i j h l = go (drop j ys) refl ∙ ap (λ a. first_order a (drop j ys)) (sym (drop_past xs i h))
  where
    go : (rs : List Datum) → drop j ys ≡ rs → Some Greater ≡ first_order [] (drop j ys)
    go [] e = absurd (omega (arith, l, ap length e, length-drop j ys))
    go (b ∷ rs) e = ap (first_order []) (sym e)

pub order_none : (xs ys : List Datum) (i j : ℕ) → length xs ≤ i → length ys ≤ j → None ≡ first_order (drop i xs) (drop j ys)
order_none xs ys i j h l = (λ k. first_order (sym (drop_past xs i h) k) (sym (drop_past ys j l) k))

module _ (xs ys : List Datum) (i j : ℕ) (a : IsAscending xs) (b : IsAscending ys) where
  pub takes_less : Some Less ≡ first_order (drop i xs) (drop j ys) → TakesLeast xs ys i j true (i + 1) j
  takes_less o = go (drop i xs) (drop j ys) refl refl (ascending_drop xs i a) (ascending_drop ys j b) o
    where
      go : (ls rs : List Datum) → drop i xs ≡ ls → drop j ys ≡ rs → IsAscending ls → IsAscending rs → Some Less ≡ first_order ls rs → TakesLeast xs ys i j true (i + 1) j
      go [] [] d e p q o = cc
      go [] (y ∷ rs) d e p q o = cc
      go (x ∷ ls) [] d e p q o =
          let r = drop_is xs i x ls d in record {
            member = x;
            there = r.0;
            rest = (λ k. canon (d k ++ e k)) ∙ ap canon (append-nil (x ∷ ls)) ∙ canon_ascending_cons x ls p ∙ ap (λ l. x ∷ canon l) (sym (append-nil ls)) ∙ sym (λ k. x ∷ canon (r.1 k ++ e k));
          }
      go (x ∷ ls) (y ∷ rs) d e p q o =
          let r = drop_is xs i x ls d in
          let less : datum_cmp x y ≡ Less = cc in record {
            member = x;
            there = r.0;
            rest = (λ k. canon (d k ++ e k)) ∙ canon_merge-less x y ls rs p q less ∙ sym (λ k. x ∷ canon (r.1 k ++ e k));
          }

  pub takes_equal : Some Equal ≡ first_order (drop i xs) (drop j ys) → TakesLeast xs ys i j true (i + 1) (j + 1)
  takes_equal o = go (drop i xs) (drop j ys) refl refl (ascending_drop xs i a) (ascending_drop ys j b) o
    where
      go : (ls rs : List Datum) → drop i xs ≡ ls → drop j ys ≡ rs → IsAscending ls → IsAscending rs → Some Equal ≡ first_order ls rs → TakesLeast xs ys i j true (i + 1) (j + 1)
      go [] [] d e p q o = cc
      go [] (y ∷ rs) d e p q o = cc
      go (x ∷ ls) [] d e p q o = cc
      go (x ∷ ls) (y ∷ rs) d e p q o =
          let r = drop_is xs i x ls d in
          let s = drop_is ys j y rs e in
          let equal : datum_cmp x y ≡ Equal = cc in record {
            member = x;
            there = r.0;
            rest = (λ k. canon (d k ++ e k)) ∙ canon_merge-equal x y ls rs p q equal ∙ sym (λ k. x ∷ canon (r.1 k ++ s.1 k));
          }

  pub takes_greater : Some Greater ≡ first_order (drop i xs) (drop j ys) → TakesLeast xs ys i j false i (j + 1)
  takes_greater o = go (drop i xs) (drop j ys) refl refl (ascending_drop xs i a) (ascending_drop ys j b) o
    where
      go : (ls rs : List Datum) → drop i xs ≡ ls → drop j ys ≡ rs → IsAscending ls → IsAscending rs → Some Greater ≡ first_order ls rs → TakesLeast xs ys i j false i (j + 1)
      go [] [] d e p q o = cc
      go [] (y ∷ rs) d e p q o =
          let s = drop_is ys j y rs e in record {
            member = y;
            there = s.0;
            rest = (λ k. canon (d k ++ e k)) ∙ canon_ascending_cons y rs q ∙ sym (λ k. y ∷ canon (d k ++ s.1 k));
          }
      go (x ∷ ls) [] d e p q o = cc
      go (x ∷ ls) (y ∷ rs) d e p q o =
          let s = drop_is ys j y rs e in
          let greater : datum_cmp x y ≡ Greater = cc in record {
            member = y;
            there = s.0;
            rest = (λ k. canon (d k ++ e k)) ∙ canon_merge-greater x y ls rs p q greater ∙ sym (λ k. y ∷ canon (d k ++ s.1 k));
          }

pub takes_none : (xs ys : List Datum) (i j : ℕ) → None ≡ first_order (drop i xs) (drop j ys) → both_rest xs ys i j ≡ []
takes_none xs ys i j o = go (drop i xs) (drop j ys) refl refl o
  where
    go : (ls rs : List Datum) → drop i xs ≡ ls → drop j ys ≡ rs → None ≡ first_order ls rs → both_rest xs ys i j ≡ []
    go [] [] d e o = (λ k. canon (d k ++ e k))
    go [] (y ∷ rs) d e o = cc
    go (x ∷ ls) [] d e o = cc
    go (x ∷ ls) (y ∷ rs) d e o = cc

-- the places of the next elements are within the lists
pub left_there : (xs ys : List Datum) (i j : ℕ) (p q : ℕ) → TakesLeast xs ys i j true p q → i < length xs
left_there xs ys i j p q t = slice_get_within xs i t.member t.there

pub right_there : (xs ys : List Datum) (i j : ℕ) (p q : ℕ) → TakesLeast xs ys i j false p q → j < length ys
right_there xs ys i j p q t = slice_get_within ys j t.member t.there

pub ruleset orders = (order_places, order_left, order_right, order_none)

pub ruleset takes = (takes_less, takes_equal, takes_greater, takes_none)

-- past the end nothing is left
pub drop_none : (xs : List Datum) (k n : ℕ) → k ≤ n → drop k xs ≡ [] → drop n xs ≡ []
drop_none xs k n h e = drop_past xs n (omega (arith, h, ap length e, length-drop k xs))

pub right_both : (xs ys : List Datum) (i j : ℕ) → Some Equal ≡ first_order (drop i xs) (drop j ys) → j < length ys
right_both xs ys i j o = go (drop i xs) (drop j ys) refl o
  where
    go : (ls rs : List Datum) → drop j ys ≡ rs → Some Equal ≡ first_order ls rs → j < length ys
    go [] [] e o = cc
    go (x ∷ ls) [] e o = cc
    go ls (y ∷ rs) e o = (drop_is ys j y rs e).2
