-- What a sort and a pass that drops repeats leave, seen as values through any map that keeps the order.
use Rattle.std.specs.Prelude.{◌≡◌, ℕ, zero, suc, ◌<◌, Bool, List, [], ◌∷◌, ◌++◌, length, map, refl}
use Rattle.std.proofs.Common.{get_or, sym, ap, ◌∙◌, subst, inl, inr, append_assoc, arith}
use Rattle.std.specs.Ordering.{eq_by_cmp, ordering_then}
use Rattle.std.specs.declared.cmp.Ordering.{Ordering}
use Rattle.std.specs.declared.cmp.Ordering.TheVariants.{Less}
use Rattle.std.specs.List.{Contains, dedup, AllByRecursion}
use Rattle.std.specs.List.Sorted.{IsPermutation, IsStrictlySortedBy}
use Rattle.std.specs.Cmp.{IsTotalOrder, on_total, eq_by_cmp_equiv, Equal-is}
use Rattle.std.proofs.lemmas.List.Filters.{dedup_is}
use Rattle.std.proofs.lemmas.List.Kept.{Any-dedup, Contains-from_dedup, IsStrictlySortedBy-dedup}
use Rattle.std.proofs.lemmas.List.Sorted.{Contains-permutation, IsPermutation-sym}
use Rattle.std.specs.Cmp.Lexicographic.{slice_cmp}
use Rattle.aql_value.specs.Datum.{Datum, data_of}
use Rattle.aql_value.specs.Order.{datum_cmp, data_cmp}
use Rattle.aql_value.specs.Laws.Order.{datum_cmp-total, datum_cmp-IsAntisymmetric}
use Rattle.aql_value.specs.Canon.{IsAscending, IsMember, canon}
use Rattle.aql_value.specs.Laws.Canon.{HasMembersOf, ascending_canon, canon_is}
use Rattle.aql_value.specs.Laws.Set.{canon_same, canon_append_left}
use Rattle.nrca_sets.specs.Distinct.{IsDistinct}

-- an element's value stands among the values
member_at : {A : Type 0} (f : A → Datum) (xs : List A) (k : ℕ) (x : A) → k < length xs → get_or xs k x ≡ x → IsMember (f x) (map f xs)
member_at f [] k x h e = absurd (omega (arith, h))
member_at f (y ∷ xs) zero x h e = inl (ap f e)
member_at f (y ∷ xs) (suc k) x h e = inr (member_at f xs k x (omega (arith, h)) e)

-- the element with that value
at_member : {A : Type 0} (f : A → Datum) (xs : List A) (z : Datum) → IsMember z (map f xs) → (x : A) × Contains xs x × (f x ≡ z)
at_member f [] z m = absurd m
at_member f (y ∷ xs) z (inl e) = (y, (0, omega arith, refl), e)
at_member f (y ∷ xs) z (inr m) =
    let r = at_member f xs z m in
    (r.0, (suc r.1.0, omega (arith, r.1.1), r.1.2), r.2)

moved_members : {A : Type 0} (f : A → Datum) (xs ss : List A) → IsPermutation xs ss → HasMembersOf (map f ss) (map f xs)
moved_members f xs ss moved z m =
    let r = at_member f xs z m in
    let b = Contains-permutation xs ss r.0 moved r.1 in
    subst (λ w. IsMember w (map f ss)) r.2 (member_at f ss b.0 r.0 b.1 b.2)

-- elements in another order make the same set
pub canon_moved : {A : Type 0} (f : A → Datum) (xs ss : List A) → IsPermutation xs ss → canon (map f ss) ≡ canon (map f xs)
canon_moved f xs ss moved =
    canon_same (map f ss) (map f xs) (moved_members f xs ss moved) (moved_members f ss xs (IsPermutation-sym xs ss moved))

module _ {A : Type 0} (f : A → Datum) (cmp : A → A → Ordering) (order : (x y : A) → datum_cmp (f x) (f y) ≡ cmp x y) where
  -- the order of the values is a total order of the elements
  pub kept_total : IsTotalOrder cmp
  kept_total = subst IsTotalOrder (λ i x y. order x y i) (on_total f datum_cmp-total)

  above_kept : (x : A) (xs : List A) → AllByRecursion (λ y. cmp x y ≡ Less) xs → AllByRecursion (λ z. datum_cmp (f x) z ≡ Less) (map f xs)
  above_kept x [] a = tt
  above_kept x (y ∷ xs) a = (order x y ∙ a.0, above_kept x xs a.1)

  -- elements that ascend have values that ascend
  pub ascending_kept : (xs : List A) → IsStrictlySortedBy cmp xs → IsAscending (map f xs)
  unfolding IsStrictlySortedBy
  ascending_kept [] h = tt
  ascending_kept (x ∷ xs) h = (above_kept x xs h.0, ascending_kept xs h.1)

  above_back : (x : A) (xs : List A) → AllByRecursion (λ z. datum_cmp (f x) z ≡ Less) (map f xs) → AllByRecursion (λ y. cmp x y ≡ Less) xs
  above_back x [] a = tt
  above_back x (y ∷ xs) a = (sym (order x y) ∙ a.0, above_back x xs a.1)

  -- elements whose values ascend ascend
  pub ascending_back : (xs : List A) → IsAscending (map f xs) → IsStrictlySortedBy cmp xs
  unfolding IsStrictlySortedBy
  ascending_back [] h = tt
  ascending_back (x ∷ xs) h = (above_back x xs h.0, ascending_back xs h.1)

  -- elements in order, each once, are the set of the elements
  pub distinct_canon : (same : A → A → Bool) → ((x y : A) → same x y ≡ eq_by_cmp cmp x y) → (xs ys : List A) → IsDistinct cmp same xs ys → map f ys ≡ canon (map f xs)
  distinct_canon same ties xs ys d = canon_is (map f ss) (map f ys) ascends within from ∙ canon_moved f xs ss d.moved
    where
      ss : List A
      ss = d.sorted

      is_dedup : ys ≡ dedup same ss
      is_dedup = dedup_is _ ss ys d.kept

      ascends : IsAscending (map f ys)
      ascends = subst (λ ws. IsAscending (map f ws)) (sym is_dedup) (ascending_kept _ (IsStrictlySortedBy-dedup kept_total ties ss d.in_order))

      same_by : same ≡ eq_by_cmp cmp
      same_by i x y = ties x y i

      within : HasMembersOf (map f ys) (map f ss)
      within z m =
          let r = at_member f ss z m in
          let a = Any-dedup (eq_by_cmp_equiv kept_total) ss r.0 r.1 in
          let equal : f r.0 ≡ f a.1 = datum_cmp-IsAntisymmetric (f r.0) (f a.1) (order r.0 a.1 ∙ (Equal-is _).0 a.4) in
          subst (λ w. IsMember w (map f ys)) (sym equal ∙ r.2)
          (subst (λ ws. IsMember (f a.1) (map f ws)) (sym (is_dedup ∙ ap (λ e. dedup e ss) same_by)) (member_at f _ a.0 a.1 a.2 a.3))

      from : HasMembersOf (map f ss) (map f ys)
      from z m =
          let r = at_member f ys z m in
          let c = Contains-from_dedup same ss r.0 (subst (λ ws. Contains ws r.0) is_dedup r.1) in
          subst (λ w. IsMember w (map f ss)) r.2 (member_at f ss c.0 r.0 c.1 c.2)

-- what `canon` makes ascends
pub canon_ascends : (xs ys : List Datum) → ys ≡ canon xs → IsAscending ys
canon_ascends xs ys e = subst IsAscending (sym e) (ascending_canon xs)

-- lists of values are compared as the lists of the elements are
pub list_cmp : {A : Type 0} (f : A → Datum) (cmp : A → A → Ordering) → ((x y : A) → datum_cmp (f x) (f y) ≡ cmp x y) → (xs ys : List A) → data_cmp (data_of (map f xs)) (data_of (map f ys)) ≡ slice_cmp cmp xs ys
list_cmp f cmp order [] [] = refl
list_cmp f cmp order [] (y ∷ ys) = refl
list_cmp f cmp order (x ∷ xs) [] = refl
list_cmp f cmp order (x ∷ xs) (y ∷ ys) = λ i. ordering_then (order x y i) (list_cmp f cmp order xs ys i)

-- one value more, where the set of what is kept is known
pub canon_more : (kept kept' before ys zs : List Datum) (v : Datum) → canon kept' ≡ canon (kept ++ v ∷ []) → canon kept ≡ canon (before ++ ys) → zs ≡ ys ++ v ∷ [] → canon kept' ≡ canon (before ++ zs)
canon_more kept kept' before ys zs v e h q =
    e
    ∙ sym (canon_append_left kept (v ∷ []))
    ∙ ap (λ l. canon (l ++ v ∷ [])) h
    ∙ canon_append_left (before ++ ys) (v ∷ [])
    ∙ ap canon (append_assoc before ys (v ∷ []))
    ∙ ap (λ l. canon (before ++ l)) (sym q)
