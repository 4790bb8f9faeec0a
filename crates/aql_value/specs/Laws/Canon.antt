-- `canon` of a list is strictly ascending and has its members, and it is the one such list.
use Rattle.std.specs.Prelude.{◌≡◌, ◌⊎◌, List, [], ◌∷◌, refl, T}
use Rattle.std.proofs.Common.{sym, ap, ◌∙◌, subst, inl, inr}
use Rattle.std.specs.declared.cmp.Ordering.TheVariants.{Less, Equal, Greater}
use Rattle.std.specs.Ordering.{match_ordering, ordering_reverse, is_lt}
use Rattle.std.specs.List.{AllByRecursion}
use Rattle.std.specs.List.Sorted.{IsStrictlySortedBy}
use Rattle.std.specs.Cmp.{tied_itself}
use Rattle.aql_value.specs.Datum.{Datum}
use Rattle.aql_value.specs.Order.{datum_cmp}
use Rattle.aql_value.specs.Laws.Order.{datum_cmp-total, datum_cmp-IsAntisymmetric}
use Rattle.aql_value.specs.Canon.{IsAscending, IsMember, put, canon}

abbrev Above : Datum → List Datum → Type 0
Above x = AllByRecursion (λ y. datum_cmp x y ≡ Less)

not_below_itself : (x : Datum) → datum_cmp x x ≡ Less → ⊥
not_below_itself x e = subst (λ r. T (is_lt r)) (sym e ∙ tied_itself datum_cmp-total x) tt

turned : (x y : Datum) → datum_cmp x y ≡ Greater → datum_cmp y x ≡ Less
turned x y e = datum_cmp-total.antisymm y x ∙ ap ordering_reverse e

pub above_member : (x : Datum) (ys : List Datum) (z : Datum) → Above x ys → IsMember z ys → datum_cmp x z ≡ Less
above_member x [] z a m = absurd m
above_member x (y ∷ ys) z a (inl e) = subst (λ w. datum_cmp x w ≡ Less) e a.0
above_member x (y ∷ ys) z a (inr m) = above_member x ys z a.1 m

above_more : (x y : Datum) (zs : List Datum) → datum_cmp x y ≡ Less → Above y zs → Above x zs
above_more x y [] e a = tt
above_more x y (z ∷ zs) e a = (datum_cmp-total.trans x y z e a.0, above_more x y zs e a.1)

above_put : (y x : Datum) (zs : List Datum) → datum_cmp y x ≡ Less → Above y zs → Above y (put x zs)
above_put y x [] e a = (e, tt)
above_put y x (z ∷ zs) e a =
    elim (datum_cmp x z) as (λ r. Above y (match_ordering r (x ∷ z ∷ zs) (z ∷ zs) (z ∷ put x zs))) [
      | Less ↦ (e, a)
      | Equal ↦ a
      | Greater ↦ (a.0, above_put y x zs e a.1)
    ]

pub ascending_put : (x : Datum) (ys : List Datum) → IsAscending ys → IsAscending (put x ys)
unfolding IsStrictlySortedBy
ascending_put x [] h = (tt, tt)
ascending_put x (y ∷ ys) h =
    elim (datum_cmp x y) as (λ r. datum_cmp x y ≡ r → IsAscending (match_ordering r (x ∷ y ∷ ys) (y ∷ ys) (y ∷ put x ys))) [
      | Less ↦ λ e. ((e, above_more x y ys e h.0), h)
      | Equal ↦ λ e. h
      | Greater ↦ λ e. (above_put y x ys (turned x y e) h.0, ascending_put x ys h.1)
    ] refl

pub ascending_canon : (xs : List Datum) → IsAscending (canon xs)
unfolding IsStrictlySortedBy
ascending_canon [] = tt
ascending_canon (x ∷ xs) = ascending_put x (canon xs) (ascending_canon xs)

pub member_put : (x : Datum) (ys : List Datum) (z : Datum) → (x ≡ z) ⊎ IsMember z ys → IsMember z (put x ys)
member_put x [] z m = m
member_put x (y ∷ ys) z m =
    elim (datum_cmp x y) as (λ r. datum_cmp x y ≡ r → IsMember z (match_ordering r (x ∷ y ∷ ys) (y ∷ ys) (y ∷ put x ys))) [
      | Less ↦ λ e. m
      | Equal ↦ λ e. elim m as (λ _. IsMember z (y ∷ ys)) [ inl p ↦ inl (sym (datum_cmp-IsAntisymmetric x y e) ∙ p) | inr n ↦ n ]
      | Greater ↦ λ e. elim m as (λ _. IsMember z (y ∷ put x ys)) [
        | inl p ↦ inr (member_put x ys z (inl p))
        | inr n ↦ elim n as (λ _. IsMember z (y ∷ put x ys)) [ inl q ↦ inl q | inr k ↦ inr (member_put x ys z (inr k)) ]
      ]
    ] refl

pub member_from_put : (x : Datum) (ys : List Datum) (z : Datum) → IsMember z (put x ys) → (x ≡ z) ⊎ IsMember z ys
member_from_put x [] z = λ m. m
member_from_put x (y ∷ ys) z =
    elim (datum_cmp x y) as (λ r. IsMember z (match_ordering r (x ∷ y ∷ ys) (y ∷ ys) (y ∷ put x ys)) → (x ≡ z) ⊎ IsMember z (y ∷ ys)) [
      | Less ↦ λ m. m
      | Equal ↦ λ m. inr m
      | Greater ↦ λ m. elim m as (λ _. (x ≡ z) ⊎ IsMember z (y ∷ ys)) [
        | inl q ↦ inr (inl q)
        | inr k ↦ elim (member_from_put x ys z k) as (λ _. (x ≡ z) ⊎ IsMember z (y ∷ ys)) [ inl p ↦ inl p | inr n ↦ inr (inr n) ]
      ]
    ]

pub member_canon : (xs : List Datum) (z : Datum) → IsMember z xs → IsMember z (canon xs)
member_canon [] z m = m
member_canon (x ∷ xs) z (inl e) = member_put x (canon xs) z (inl e)
member_canon (x ∷ xs) z (inr m) = member_put x (canon xs) z (inr (member_canon xs z m))

pub member_from_canon : (xs : List Datum) (z : Datum) → IsMember z (canon xs) → IsMember z xs
member_from_canon [] z m = m
member_from_canon (x ∷ xs) z m =
    elim (member_from_put x (canon xs) z m) as (λ _. IsMember z (x ∷ xs)) [ inl e ↦ inl e | inr n ↦ inr (member_from_canon xs z n) ]

-- the members of the one are members of the other
abbrev pub HasMembersOf : List Datum → List Datum → Type 0
HasMembersOf xs ys = (z : Datum) → IsMember z ys → IsMember z xs

same_heads : (x y : Datum) (xs ys : List Datum) → Above x xs → Above y ys → IsMember x (y ∷ ys) → IsMember y (x ∷ xs) → x ≡ y
same_heads x y xs ys a b (inl e) n = sym e
same_heads x y xs ys a b (inr m) (inl e) = e
same_heads x y xs ys a b (inr m) (inr n) =
    absurd (not_below_itself x (datum_cmp-total.trans x y x (above_member x xs y a n) (above_member y ys x b m)))

tail_member : (x y : Datum) (xs ys : List Datum) → x ≡ y → Above x xs → (z : Datum) → IsMember z xs → IsMember z (y ∷ ys) → IsMember z ys
tail_member x y xs ys e a z m (inr n) = n
tail_member x y xs ys e a z m (inl f) =
    absurd (not_below_itself x (subst (λ w. datum_cmp x w ≡ Less) (sym (e ∙ f)) (above_member x xs z a m)))

-- two strictly ascending lists with the same members are equal
pub ascending_unique : (xs ys : List Datum) → IsAscending xs → IsAscending ys → HasMembersOf xs ys → HasMembersOf ys xs → xs ≡ ys
unfolding IsStrictlySortedBy
ascending_unique [] [] a b f g = refl
ascending_unique [] (y ∷ ys) a b f g = absurd (f y (inl refl))
ascending_unique (x ∷ xs) [] a b f g = absurd (g x (inl refl))
ascending_unique (x ∷ xs) (y ∷ ys) a b f g =
    let e = same_heads x y xs ys a.0 b.0 (g x (inl refl)) (f y (inl refl)) in
    let up : HasMembersOf xs ys = λ z m. tail_member y x ys xs (sym e) b.0 z m (f z (inr m)) in
    let down : HasMembersOf ys xs = λ z m. tail_member x y xs ys e a.0 z m (g z (inr m)) in
    λ i. e i ∷ ascending_unique xs ys a.1 b.1 up down i

-- a strictly ascending list with the members of xs is `canon xs`
pub canon_is : (xs ys : List Datum) → IsAscending ys → HasMembersOf ys xs → HasMembersOf xs ys → ys ≡ canon xs
canon_is xs ys a f g =
    ascending_unique ys (canon xs) a (ascending_canon xs) (λ z m. f z (member_from_canon xs z m)) (λ z m. member_canon xs z (g z m))

-- a strictly ascending list is its own `canon`
pub canon_ascending : (xs : List Datum) → IsAscending xs → canon xs ≡ xs
canon_ascending xs a = sym (canon_is xs xs a (λ z m. m) (λ z m. m))
