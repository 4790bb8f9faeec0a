-- Numbers of a table that are members already.
use Rattle.std.proofs.Common.{◌≡◌, ◌⊎◌, ◌%◌, ℕ, zero, suc, List, [], ◌∷◌, ◌++◌, get_or, replicate, inl, inr, refl, ap, sym, subst, arith}
use Rattle.aql_value.specs.Canon.{canon, IsMember}
use Rattle.aql_value.specs.Datum.{Datum, natural}
use Rattle.aql_value.specs.Laws.Canon.{member_canon, member_from_canon}
use Rattle.aql_value.specs.Laws.Set.{canon_same, member_left, member_right, member_split}
use Rattle.nrca_numbers.specs.Recent.{AreMembers, IsRecent}

same_everywhere : {A : Type 0} (k i : ℕ) (z : A) → get_or (replicate k z) i z ≡ z
same_everywhere zero i z = refl
same_everywhere (suc k) zero z = refl
same_everywhere (suc k) (suc i) z = same_everywhere k i z

-- no number stands in its slot where 1 stands in the first one and 0 in the others
pub none_recent : (k n i : ℕ) → i ≡ n % 128 → get_or (1 ∷ replicate k 0) i 0 ≡ n → ⊥
none_recent k n zero e f = omega arith
none_recent k n (suc i) e f = omega (arith, same_everywhere {A = ℕ} k i 0)

-- members of a list are members of another with the same set
pub members_still : (slots : List ℕ) (xs ys : List Datum) → canon ys ≡ canon xs → AreMembers slots xs → AreMembers slots ys
members_still slots xs ys e h n r =
    member_from_canon ys (natural n) (subst (λ l. IsMember (natural n) l) (sym e) (member_canon xs (natural n) (h n r)))

-- members of a list are members of a longer one
pub members_more : (slots : List ℕ) (xs ys : List Datum) → AreMembers slots xs → AreMembers slots (xs ++ ys)
members_more slots xs ys h n r = member_left (natural n) xs ys (h n r)

-- a number that is put into the table as it becomes a member
pub members_put : (slots more : List ℕ) (n : ℕ) (xs : List Datum) → ((m : ℕ) → IsRecent more m → (n ≡ m) ⊎ IsRecent slots m) → AreMembers slots xs → AreMembers more (xs ++ natural n ∷ [])
members_put slots more n xs p h m r =
    elim (p m r) as (λ _. IsMember (natural m) (xs ++ natural n ∷ [])) [
      | inl e ↦ member_right (natural m) xs (natural n ∷ []) (inl (ap natural e))
      | inr k ↦ member_left (natural m) xs (natural n ∷ []) (h m k)
    ]

-- what is a member already adds nothing
pub member_already : (z : Datum) (xs : List Datum) → IsMember z xs → canon xs ≡ canon (xs ++ z ∷ [])
member_already z xs m = canon_same xs (xs ++ z ∷ []) back (λ w k. member_left w xs (z ∷ []) k)
  where
    last : (w : Datum) → IsMember w (z ∷ []) → IsMember w xs
    last w (inl e) = subst (λ v. IsMember v xs) e m
    last w (inr n) = absurd n

    back : (w : Datum) → IsMember w (xs ++ z ∷ []) → IsMember w xs
    back w k = elim (member_split w xs (z ∷ []) k) as (λ _. IsMember w xs) [ inl a ↦ a | inr b ↦ last w b ]
