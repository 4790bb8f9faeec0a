-- What a sort of values, and a pass that drops repeats, leave of the values' meanings.
use Rattle.std.specs.Prelude.{◌≡◌, ℕ, zero, suc, ◌+◌, ◌<◌, List, [], ◌∷◌, length, map, refl}
use Rattle.std.proofs.Common.{get_or, sym, ap, ◌∙◌, subst, inl, inr, arith}
use Rattle.std.specs.Ordering.{on, eq_by_cmp, is_lt}
use Rattle.std.specs.declared.cmp.Ordering.TheVariants.{Less}
use Rattle.std.specs.List.{Contains, dedup, AllByRecursion}
use Rattle.std.specs.List.Sorted.{IsPermutation, IsSorted, IsStrictlySortedBy}
use Rattle.std.specs.List.Retain.{IsFiltered, DiffersFromLast}
use Rattle.std.specs.Cmp.{IsTotalOrder, on_total, eq_by_cmp_equiv, Equal-is}
use Rattle.std.proofs.lemmas.List.{length-map}
use Rattle.std.proofs.lemmas.List.Filters.{dedup_is}
use Rattle.std.proofs.lemmas.List.Kept.{Any-dedup, Contains-from_dedup, IsStrictlySortedBy-dedup}
use Rattle.std.proofs.lemmas.List.Sorted.{Contains-permutation, IsPermutation-sym}
use Rattle.aql_value.specs.Datum.{Datum}
use Rattle.aql_value.specs.Meaning.{datum}
use Rattle.aql_value.specs.Order.{datum_cmp}
use Rattle.aql_value.specs.Laws.Order.{datum_cmp-total, datum_cmp-IsAntisymmetric}
use Rattle.aql_value.specs.Canon.{IsAscending, IsMember, canon}
use Rattle.aql_value.specs.Laws.Canon.{HasMembersOf, canon_is}
use Rattle.aql_value.specs.Laws.Set.{canon_same}
use Rattle.aql_value.specs.declared.value.Value.{Value}

get_or-meaning : (vs : List Value) (k : ℕ) (x : Datum) (v : Value) → k < length vs → get_or (map datum vs) k x ≡ datum (get_or vs k v)
get_or-meaning [] k x v h = absurd (omega (arith, h))
get_or-meaning (u ∷ vs) zero x v h = refl
get_or-meaning (u ∷ vs) (suc k) x v h = get_or-meaning vs k x v (omega (arith, h))

-- values in the order of their meanings have meanings in order
pub sorted_meaning : (vs : List Value) → IsSorted (on datum datum_cmp) vs → IsSorted datum_cmp (map datum vs)
sorted_meaning [] h k x l m = absurd (omega (arith, m))
sorted_meaning (v ∷ vs) h k x l m =
    let n : k + 1 < length (v ∷ vs) = omega (arith, m, length-map (v ∷ vs) datum) in
    let first = get_or-meaning (v ∷ vs) k x v (omega (arith, n)) in
    let next = get_or-meaning (v ∷ vs) (k + 1) x v n in
    ap is_lt (λ i. datum_cmp (next i) (first i)) ∙ h k v l n

pub sorted_values : (vs : List Value) → IsSorted datum_cmp (map datum vs) → IsSorted (on datum datum_cmp) vs
sorted_values vs h k v l m =
    let first = get_or-meaning vs k (datum v) v (omega (arith, m)) in
    let next = get_or-meaning vs (k + 1) (datum v) v m in
    ap is_lt (λ i. datum_cmp (sym next i) (sym first i)) ∙ h k (datum v) l (omega (arith, m, length-map vs datum))

pub value_cmp-total : IsTotalOrder (on datum datum_cmp)
value_cmp-total = on_total datum datum_cmp-total

member_at : (vs : List Value) (k : ℕ) (v : Value) → k < length vs → get_or vs k v ≡ v → IsMember (datum v) (map datum vs)
member_at [] k v h e = absurd (omega (arith, h))
member_at (u ∷ vs) zero v h e = inl (ap datum e)
member_at (u ∷ vs) (suc k) v h e = inr (member_at vs k v (omega (arith, h)) e)

-- the value with that meaning
at_member : (vs : List Value) (z : Datum) → IsMember z (map datum vs) → (v : Value) × Contains vs v × (datum v ≡ z)
at_member [] z m = absurd m
at_member (u ∷ vs) z (inl e) = (u, (0, omega arith, refl), e)
at_member (u ∷ vs) z (inr m) =
    let r = at_member vs z m in
    (r.0, (suc r.1.0, omega (arith, r.1.1), r.1.2), r.2)

moved_members : (vs ss : List Value) → IsPermutation vs ss → HasMembersOf (map datum ss) (map datum vs)
moved_members vs ss moved z m =
    let r = at_member vs z m in
    let b = Contains-permutation vs ss r.0 moved r.1 in
    subst (λ w. IsMember w (map datum ss)) r.2 (member_at ss b.0 r.0 b.1 b.2)

-- values in another order make the same set
pub canon_permutation : (vs ss : List Value) → IsPermutation vs ss → canon (map datum ss) ≡ canon (map datum vs)
canon_permutation vs ss moved =
    canon_same (map datum ss) (map datum vs) (moved_members vs ss moved) (moved_members ss vs (IsPermutation-sym vs ss moved))

above_meaning : (v : Value) (vs : List Value) → AllByRecursion (λ w. on datum datum_cmp v w ≡ Less) vs → AllByRecursion (λ y. datum_cmp (datum v) y ≡ Less) (map datum vs)
above_meaning v [] a = tt
above_meaning v (w ∷ vs) a = (a.0, above_meaning v vs a.1)

ascending_meaning : (vs : List Value) → IsStrictlySortedBy (on datum datum_cmp) vs → IsAscending (map datum vs)
unfolding IsStrictlySortedBy
ascending_meaning [] h = tt
ascending_meaning (v ∷ vs) h = (above_meaning v vs h.0, ascending_meaning vs h.1)

-- the meanings of sorted values of which repeats are dropped ascend
pub ascending_dedup : (vs ds : List Value) → IsSorted datum_cmp (map datum vs) → IsFiltered (DiffersFromLast (eq_by_cmp (on datum datum_cmp))) [] vs ds → IsAscending (map datum ds)
ascending_dedup vs ds sorted left =
    subst (λ ws. IsAscending (map datum ws)) (sym (dedup_is _ vs ds left))
    (ascending_meaning _ (IsStrictlySortedBy-dedup value_cmp-total (λ x y. refl) vs (sorted_values vs sorted)))

-- sorted values of which repeats are dropped are the set of the values
pub dedup-canon : (vs ds : List Value) → IsSorted datum_cmp (map datum vs) → IsFiltered (DiffersFromLast (eq_by_cmp (on datum datum_cmp))) [] vs ds → map datum ds ≡ canon (map datum vs)
dedup-canon vs ds sorted left = canon_is (map datum vs) (map datum ds) (ascending_dedup vs ds sorted left) kept from
  where
    is_dedup : ds ≡ dedup (eq_by_cmp (on datum datum_cmp)) vs
    is_dedup = dedup_is _ vs ds left

    kept : HasMembersOf (map datum ds) (map datum vs)
    kept z m =
        let r = at_member vs z m in
        let a = Any-dedup (eq_by_cmp_equiv value_cmp-total) vs r.0 r.1 in
        let same : datum r.0 ≡ datum a.1 = datum_cmp-IsAntisymmetric (datum r.0) (datum a.1) ((Equal-is _).0 a.4) in
        subst (λ w. IsMember w (map datum ds)) (sym same ∙ r.2)
        (subst (λ ws. IsMember (datum a.1) (map datum ws)) (sym is_dedup) (member_at _ a.0 a.1 a.2 a.3))

    from : HasMembersOf (map datum vs) (map datum ds)
    from z m =
        let r = at_member ds z m in
        let c = Contains-from_dedup (eq_by_cmp (on datum datum_cmp)) vs r.0 (subst (λ ws. Contains ws r.0) is_dedup r.1) in
        subst (λ w. IsMember w (map datum vs)) r.2 (member_at vs c.0 r.0 c.1 c.2)

-- the two of the meanings of a list, for callers that keep the list's meanings apart
pub dedup_ascends : (vs ds : List Value) (xs : List Datum) → IsFiltered (DiffersFromLast (eq_by_cmp (on datum datum_cmp))) [] vs ds → map datum vs ≡ xs → IsSorted datum_cmp xs → IsAscending (map datum ds)
dedup_ascends vs ds xs left p sorted = ascending_dedup vs ds (subst (IsSorted datum_cmp) (sym p) sorted) left

pub dedup_canon : (vs ds : List Value) (xs : List Datum) → IsFiltered (DiffersFromLast (eq_by_cmp (on datum datum_cmp))) [] vs ds → map datum vs ≡ xs → IsSorted datum_cmp xs → map datum ds ≡ canon xs
dedup_canon vs ds xs left p sorted = dedup-canon vs ds (subst (IsSorted datum_cmp) (sym p) sorted) left ∙ ap canon p

pub permutation_canon : (vs ss : List Value) (xs : List Datum) → IsPermutation vs ss → map datum vs ≡ xs → canon (map datum ss) ≡ canon xs
permutation_canon vs ss xs moved p = canon_permutation vs ss moved ∙ ap canon p
