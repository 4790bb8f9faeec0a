-- Sets that are made of lists: their members, and what `canon` makes of lists that are put together.
use Rattle.std.specs.Prelude.{◌≡◌, ◌⊎◌, ◌+◌, ◌≤◌, ◌<◌, ℕ, zero, suc, List, [], ◌∷◌, ◌++◌, length, map, refl}
use Rattle.std.specs.declared.cmp.Ordering.{Ordering}
use Rattle.std.specs.declared.cmp.Ordering.TheVariants.{Less, Equal, Greater}
use Rattle.std.specs.Ordering.{match_ordering, ordering_reverse, nat_cmp, is_lt}
use Rattle.std.specs.List.{AllByRecursion, range_with_len}
use Rattle.std.specs.List.Sorted.{IsStrictlySortedBy, IsSorted}
use Rattle.std.proofs.Common.{get_or, sym, ap, ◌∙◌, subst, inl, inr, arith}
use Rattle.aql_value.specs.Datum.{Datum, natural}
use Rattle.aql_value.specs.Order.{datum_cmp}
use Rattle.aql_value.specs.Laws.Order.{datum_cmp-total, datum_cmp-IsAntisymmetric}
use Rattle.aql_value.specs.Canon.{IsAscending, IsMember, put, canon}
use Rattle.aql_value.specs.Laws.Canon.{HasMembersOf, ascending_canon, member_canon, member_from_canon, canon_is, canon_ascending}
use Rattle.aql_value.specs.Lists.{Every, below}
use Rattle.aql_value.specs.Laws.Lists.{Every-impl, Every-append}
use Rattle.aql_value.specs.Partial.{concat}

pub member_left : (z : Datum) (xs ys : List Datum) → IsMember z xs → IsMember z (xs ++ ys)
member_left z [] ys m = absurd m
member_left z (x ∷ xs) ys (inl e) = inl e
member_left z (x ∷ xs) ys (inr m) = inr (member_left z xs ys m)

pub member_right : (z : Datum) (xs ys : List Datum) → IsMember z ys → IsMember z (xs ++ ys)
member_right z [] ys m = m
member_right z (x ∷ xs) ys m = inr (member_right z xs ys m)

-- a member of one list after another is a member of one of them
pub member_split : (z : Datum) (xs ys : List Datum) → IsMember z (xs ++ ys) → IsMember z xs ⊎ IsMember z ys
member_split z [] ys m = inr m
member_split z (x ∷ xs) ys (inl e) = inl (inl e)
member_split z (x ∷ xs) ys (inr m) = elim (member_split z xs ys m) as (λ _. IsMember z (x ∷ xs) ⊎ IsMember z ys) [ inl a ↦ inl (inr a) | inr b ↦ inr b ]

-- P of every member
pub every_member : (P : Datum → Type 0) (xs : List Datum) (z : Datum) → Every P xs → IsMember z xs → P z
every_member P [] z h m = absurd m
every_member P (x ∷ xs) z h (inl e) = subst P e h.0
every_member P (x ∷ xs) z h (inr m) = every_member P xs z h.1 m

pub members_every : (P : Datum → Type 0) (xs : List Datum) → ((z : Datum) → IsMember z xs → P z) → Every P xs
members_every P [] h = tt
members_every P (x ∷ xs) h = (h x (inl refl), members_every P xs (λ z m. h z (inr m)))

pub Every-canon : (P : Datum → Type 0) (xs : List Datum) → Every P xs → Every P (canon xs)
Every-canon P xs h = members_every P (canon xs) (λ z m. every_member P xs z h (member_from_canon xs z m))

pub Every-from_canon : (P : Datum → Type 0) (xs : List Datum) → Every P (canon xs) → Every P xs
Every-from_canon P xs h = members_every P xs (λ z m. every_member P (canon xs) z h (member_canon xs z m))

-- lists with the same members make one set
pub canon_same : (xs ys : List Datum) → HasMembersOf xs ys → HasMembersOf ys xs → canon xs ≡ canon ys
canon_same xs ys f g =
    canon_is ys (canon xs) (ascending_canon xs) (λ z m. member_canon xs z (f z m)) (λ z m. g z (member_from_canon xs z m))

pub canon_canon : (xs : List Datum) → canon (canon xs) ≡ canon xs
canon_canon xs = canon_ascending (canon xs) (ascending_canon xs)

joined : (z : Datum) (xs xs' ys ys' : List Datum) → (IsMember z xs → IsMember z xs') → (IsMember z ys → IsMember z ys') → IsMember z (xs ++ ys) → IsMember z (xs' ++ ys')
joined z xs xs' ys ys' f g m =
    elim (member_split z xs ys m) as (λ _. IsMember z (xs' ++ ys')) [ inl a ↦ member_left z xs' ys' (f a) | inr b ↦ member_right z xs' ys' (g b) ]

pub canon_append : (xs ys : List Datum) → canon (canon xs ++ canon ys) ≡ canon (xs ++ ys)
canon_append xs ys =
    canon_same (canon xs ++ canon ys) (xs ++ ys)
    (λ z m. joined z xs (canon xs) ys (canon ys) (member_canon xs z) (member_canon ys z) m)
    (λ z m. joined z (canon xs) xs (canon ys) ys (member_from_canon xs z) (member_from_canon ys z) m)

pub canon_append_left : (xs ys : List Datum) → canon (canon xs ++ ys) ≡ canon (xs ++ ys)
canon_append_left xs ys =
    canon_same (canon xs ++ ys) (xs ++ ys)
    (λ z m. joined z xs (canon xs) ys ys (member_canon xs z) (λ n. n) m)
    (λ z m. joined z (canon xs) xs ys ys (member_from_canon xs z) (λ n. n) m)

pub canon_append_right : (xs ys : List Datum) → canon (xs ++ canon ys) ≡ canon (xs ++ ys)
canon_append_right xs ys =
    canon_same (xs ++ canon ys) (xs ++ ys)
    (λ z m. joined z xs xs ys (canon ys) (λ n. n) (member_canon ys z) m)
    (λ z m. joined z xs xs (canon ys) ys (λ n. n) (member_from_canon ys z) m)

member_up : (z : Datum) (xss : List (List Datum)) → IsMember z (concat xss) → IsMember z (concat (map canon xss))
member_up z [] m = m
member_up z (xs ∷ xss) m = joined z xs (canon xs) (concat xss) (concat (map canon xss)) (member_canon xs z) (member_up z xss) m

member_down : (z : Datum) (xss : List (List Datum)) → IsMember z (concat (map canon xss)) → IsMember z (concat xss)
member_down z [] m = m
member_down z (xs ∷ xss) m = joined z (canon xs) xs (concat (map canon xss)) (concat xss) (member_from_canon xs z) (member_down z xss) m

pub canon_concat : (xss : List (List Datum)) → canon (concat (map canon xss)) ≡ canon (concat xss)
canon_concat xss = canon_same (concat (map canon xss)) (concat xss) (λ z m. member_up z xss m) (λ z m. member_down z xss m)

length_placed : (o : Ordering) (x y : Datum) (ys zs : List Datum) → length zs ≤ length ys + 1 → length (match_ordering o (x ∷ y ∷ ys) (y ∷ ys) (y ∷ zs)) ≤ length ys + 2
length_placed Less x y ys zs h = omega arith
length_placed Equal x y ys zs h = omega arith
length_placed Greater x y ys zs h = omega (arith, h)

length_put : (x : Datum) (ys : List Datum) → length (put x ys) ≤ length ys + 1
length_put x [] = omega arith
length_put x (y ∷ ys) = omega (arith, length_placed (datum_cmp x y) x y ys (put x ys) (length_put x ys))

-- a set has at most as many members as the list
pub length_canon : (xs : List Datum) → length (canon xs) ≤ length xs
length_canon [] = omega arith
length_canon (x ∷ xs) = omega (arith, length_put x (canon xs), length_canon xs)

numbers_above : (m a n : ℕ) → m < a → AllByRecursion (λ y. datum_cmp (natural m) y ≡ Less) (map natural (range_with_len a n))
numbers_above m a zero h = tt
numbers_above m a (suc n) h = (less_is m a h, numbers_above m (a + 1) n (omega (arith, h)))
  where
    less_is : (m a : ℕ) → m < a → nat_cmp m a ≡ Less
    less_is m a h = grind (arith, h)

ascending_range : (a n : ℕ) → IsAscending (map natural (range_with_len a n))
unfolding IsStrictlySortedBy
ascending_range a zero = tt
ascending_range a (suc n) = (numbers_above a (a + 1) n (omega arith), ascending_range (a + 1) n)

-- the numbers from 0 on ascend
pub ascending_below : (n : ℕ) → IsAscending (map natural (below n))
ascending_below n = ascending_range 0 n

-- a set of a least member and others
pub canon_least : (x : Datum) (zs ws : List Datum) → Every (λ z. datum_cmp x z ≡ Less) zs → HasMembersOf ws (x ∷ zs) → HasMembersOf (x ∷ zs) ws → canon ws ≡ x ∷ canon zs
unfolding IsStrictlySortedBy
canon_least x zs ws h f g =
    sym (canon_is ws (x ∷ canon zs) (Every-canon (λ z. datum_cmp x z ≡ Less) zs h, ascending_canon zs) back forth)
  where
    forth : HasMembersOf ws (x ∷ canon zs)
    forth z (inl e) = f z (inl e)
    forth z (inr m) = f z (inr (member_from_canon zs z m))

    back : HasMembersOf (x ∷ canon zs) ws
    back z m = elim (g z m) as (λ _. IsMember z (x ∷ canon zs)) [ inl e ↦ inl e | inr n ↦ inr (member_canon zs z n) ]

abbrev Above : Datum → List Datum → Type 0
Above x = Every (λ z. datum_cmp x z ≡ Less)

above_lesser : (x y : Datum) (ys : List Datum) → datum_cmp x y ≡ Less → Above y ys → Above x ys
above_lesser x y ys e h = Every-impl (λ z. datum_cmp y z ≡ Less) (λ z. datum_cmp x z ≡ Less) (λ z k. datum_cmp-total.trans x y z e k) ys h

middle_front : (y z : Datum) (xs ys : List Datum) → IsMember z (xs ++ y ∷ ys) → IsMember z (y ∷ (xs ++ ys))
middle_front y z xs ys m =
    elim (member_split z xs (y ∷ ys) m) as (λ _. IsMember z (y ∷ (xs ++ ys))) [
      | inl a ↦ inr (member_left z xs ys a)
      | inr b ↦ elim b as (λ _. IsMember z (y ∷ (xs ++ ys))) [ inl e ↦ inl e | inr n ↦ inr (member_right z xs ys n) ]
    ]

front_middle : (y z : Datum) (xs ys : List Datum) → IsMember z (y ∷ (xs ++ ys)) → IsMember z (xs ++ y ∷ ys)
front_middle y z xs ys (inl e) = member_right z xs (y ∷ ys) (inl e)
front_middle y z xs ys (inr m) =
    elim (member_split z xs ys m) as (λ _. IsMember z (xs ++ y ∷ ys)) [ inl a ↦ member_left z xs (y ∷ ys) a | inr b ↦ member_right z xs (y ∷ ys) (inr b) ]

-- the set of two ascending lists begins with the smaller of their first members
pub canon_merge-less : (x y : Datum) (xs ys : List Datum) → IsAscending (x ∷ xs) → IsAscending (y ∷ ys) → datum_cmp x y ≡ Less → canon ((x ∷ xs) ++ y ∷ ys) ≡ x ∷ canon (xs ++ y ∷ ys)
unfolding IsStrictlySortedBy
canon_merge-less x y xs ys a b e =
    canon_least x (xs ++ y ∷ ys) ((x ∷ xs) ++ y ∷ ys) (Every-append (λ z. datum_cmp x z ≡ Less) xs (y ∷ ys) a.0 (e, above_lesser x y ys e b.0)) (λ z m. m) (λ z m. m)

pub canon_merge-equal : (x y : Datum) (xs ys : List Datum) → IsAscending (x ∷ xs) → IsAscending (y ∷ ys) → datum_cmp x y ≡ Equal → canon ((x ∷ xs) ++ y ∷ ys) ≡ x ∷ canon (xs ++ ys)
unfolding IsStrictlySortedBy
canon_merge-equal x y xs ys a b e =
    let same : x ≡ y = datum_cmp-IsAntisymmetric x y e in
    canon_least x (xs ++ ys) ((x ∷ xs) ++ y ∷ ys)
    (Every-append (λ z. datum_cmp x z ≡ Less) xs ys a.0 (subst (λ w. Above w ys) (sym same) b.0))
    (λ z m. elim m as (λ _. IsMember z ((x ∷ xs) ++ y ∷ ys)) [ inl k ↦ inl k | inr n ↦ inr (front_middle y z xs ys (inr n)) ])
    (λ z m. elim m as (λ _. IsMember z (x ∷ (xs ++ ys))) [
      | inl k ↦ inl k
      | inr n ↦ elim (middle_front y z xs ys n) as (λ _. IsMember z (x ∷ (xs ++ ys))) [ inl k ↦ inl (same ∙ k) | inr o ↦ inr o ]
    ])

pub canon_merge-greater : (x y : Datum) (xs ys : List Datum) → IsAscending (x ∷ xs) → IsAscending (y ∷ ys) → datum_cmp x y ≡ Greater → canon ((x ∷ xs) ++ y ∷ ys) ≡ y ∷ canon ((x ∷ xs) ++ ys)
unfolding IsStrictlySortedBy
canon_merge-greater x y xs ys a b e =
    let below : datum_cmp y x ≡ Less = datum_cmp-total.antisymm y x ∙ ap ordering_reverse e in
    canon_least y ((x ∷ xs) ++ ys) ((x ∷ xs) ++ y ∷ ys)
    (Every-append (λ z. datum_cmp y z ≡ Less) (x ∷ xs) ys (below, above_lesser y x xs below a.0) b.0)
    (λ z m. front_middle y z (x ∷ xs) ys m)
    (λ z m. middle_front y z (x ∷ xs) ys m)

pub canon_ascending_cons : (x : Datum) (xs : List Datum) → IsAscending (x ∷ xs) → canon (x ∷ xs) ≡ x ∷ canon xs
unfolding IsStrictlySortedBy
canon_ascending_cons x xs a = canon_least x xs (x ∷ xs) a.0 (λ z m. m) (λ z m. m)

pub ascending_tail : (x : Datum) (xs : List Datum) → IsAscending (x ∷ xs) → IsAscending xs
unfolding IsStrictlySortedBy
ascending_tail x xs a = a.1

-- an ascending list is sorted, for calls that ask for a sorted list
pub ascending_sorted : (xs : List Datum) → IsAscending xs → IsSorted datum_cmp xs
unfolding IsStrictlySortedBy
ascending_sorted [] a k d l m = absurd (omega (arith, m))
ascending_sorted (x ∷ []) a k d l m = absurd (omega (arith, m))
ascending_sorted (x ∷ y ∷ ys) a zero d l m = ap is_lt (datum_cmp-total.antisymm y x ∙ ap ordering_reverse a.0.0)
ascending_sorted (x ∷ y ∷ ys) a (suc k) d l m =
    let e : suc k + 1 ≡ suc (k + 1) = omega arith in
    ap (λ n. is_lt (datum_cmp (get_or (x ∷ y ∷ ys) n d) (get_or (y ∷ ys) k d))) e ∙ ascending_sorted (y ∷ ys) a.1 k d (omega arith) (omega (arith, m))
