-- A list with more values has no fewer distinct ones.
use Rattle.std.specs.Prelude.{◌≡◌, ℕ, ◌+◌, ◌*◌, ◌≤◌, max, List, [], ◌∷◌, ◌++◌, length}
use Rattle.std.proofs.Common.{ap, sym, ◌∙◌, subst, inl, inr, arith}
use Rattle.std.specs.declared.cmp.Ordering.{Ordering}
use Rattle.std.specs.declared.cmp.Ordering.TheVariants.{Less, Equal, Greater}
use Rattle.std.specs.Ordering.{match_ordering}
use Rattle.aql_value.specs.Datum.{Datum}
use Rattle.aql_value.specs.Order.{datum_cmp}
use Rattle.aql_value.specs.Canon.{IsMember, put, canon}
use Rattle.aql_value.specs.Laws.Set.{canon_same, canon_canon, member_left, member_right, member_split}
use Rattle.nrca_sets.specs.Bounded.{most_kept}

swap : (z : Datum) (xs ys : List Datum) → IsMember z (xs ++ ys) → IsMember z (ys ++ xs)
swap z xs ys m = elim (member_split z xs ys m) as (λ _. IsMember z (ys ++ xs)) [ inl a ↦ member_right z ys xs a | inr b ↦ member_left z ys xs b ]

placed_longer : (o : Ordering) (x y : Datum) (ys zs : List Datum) → length ys ≤ length zs → length ys + 1 ≤ length (match_ordering o (x ∷ y ∷ ys) (y ∷ ys) (y ∷ zs))
placed_longer Less x y ys zs h = omega arith
placed_longer Equal x y ys zs h = omega arith
placed_longer Greater x y ys zs h = omega (arith, h)

put_longer : (x : Datum) (ys : List Datum) → length ys ≤ length (put x ys)
put_longer x [] = omega arith
put_longer x (y ∷ ys) = omega (arith, placed_longer (datum_cmp x y) x y ys (put x ys) (put_longer x ys))

more_before : (ys xs : List Datum) → length (canon xs) ≤ length (canon (ys ++ xs))
more_before [] xs = omega arith
more_before (y ∷ ys) xs = omega (arith, more_before ys xs, put_longer y (canon (ys ++ xs)))

pub canon_grows : (xs ys : List Datum) → length (canon xs) ≤ length (canon (xs ++ ys))
canon_grows xs ys =
    let e : canon (ys ++ xs) ≡ canon (xs ++ ys) = canon_same (ys ++ xs) (xs ++ ys) (λ z m. swap z xs ys m) (λ z m. swap z ys xs m) in
    subst (λ zs. length (canon xs) ≤ length zs) e (more_before ys xs)

-- what may be kept of a list, may be kept of a longer one
pub few_still : (limit : ℕ) (xs ys zs : List Datum) → limit ≤ most_kept xs → zs ≡ xs ++ ys → limit ≤ most_kept zs
few_still limit xs ys zs h e = subst (λ ws. limit ≤ most_kept ws) (sym e) (grind (arith, h, canon_grows xs ys))

-- of values without repeats any number may be kept
pub distinct_few : (limit n : ℕ) (xs ys : List Datum) → ys ≡ canon xs → n ≡ length ys → limit ≤ max 1024 (2 * n) → limit ≤ most_kept ys
distinct_few limit n xs ys e k h =
    let same : canon ys ≡ ys = ap canon e ∙ canon_canon xs ∙ sym e in
    subst (λ m. limit ≤ max 1024 (2 * m)) (k ∙ sym (ap length same)) h
