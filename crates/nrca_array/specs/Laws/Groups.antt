-- The lists of second numbers that pairs make: each ascends, and they stand one after the other as the pairs do.
use Rattle.std.specs.Prelude.{◌≡◌, ℕ, suc, ◌+◌, ◌-◌, ◌<◌, ◌≤◌, Bool, true, false, cond, nat_eq, List, [], ◌∷◌, map, take, drop, refl}
use Rattle.std.proofs.Common.{sym, ap, ◌∙◌, subst, arith}
use Rattle.std.specs.declared.cmp.Ordering.TheVariants.{Less}
use Rattle.std.specs.Ordering.{nat_cmp, ordering_then}
use Rattle.std.specs.List.{AllByRecursion, filter, slice_range, take-map, drop-map}
use Rattle.std.specs.List.Sorted.{IsStrictlySortedBy}
use Rattle.std.proofs.lemmas.List.{length-map}
use Rattle.std.proofs.lemmas.Option.{get_or_from_slice_get, slice_get-map}
use Rattle.std.specs.Option.{option_map}
use Rattle.aql_value.specs.Lists.{below, Every}
use Rattle.aql_value.specs.Laws.Lists.{length-below, slice_get-below, Every-below, Every-onto}
use Rattle.nrca_sets.specs.Pairs.{pair_cmp}
use Rattle.nrca_sets.specs.Runs.{count_below, run_starts}
use Rattle.nrca_sets.specs.Laws.Runs.{firsts_rise, count_rises, count_within, run_is}
use Rattle.nrca_array.specs.Groups.{group_begin, groups_at, AreGroups, numbers_set, second_numbers, seconds_at, seconds_below, seconds_table}
use Rattle.aql_value.specs.Indices.{IsTable}

-- equal images of each element
map-same : {A B : Type 0} (f g : A → B) (xs : List A) → Every (λ x. f x ≡ g x) xs → map f xs ≡ map g xs
map-same f g [] h = refl
map-same f g (x ∷ xs) h = λ i. h.0 i ∷ map-same f g xs h.1 i

pub map-below : {A : Type 0} (f g : ℕ → A) (n : ℕ) → ((i : ℕ) → i < n → f i ≡ g i) → map f (below n) ≡ map g (below n)
map-below f g n h = map-same f g (below n) (Every-below (λ i. f i ≡ g i) n h)

map-range : {A B : Type 0} (f : A → B) (xs : List A) (a b : ℕ) → map f (slice_range xs a b) ≡ slice_range (map f xs) a b
map-range f xs a b = sym (take-map f (b - a) (drop a xs)) ∙ ap (take (b - a)) (sym (drop-map f a xs))

second_less : (i m n k l : ℕ) → nat_eq m i ≡ true → nat_eq n i ≡ true → ordering_then (nat_cmp m n) (nat_cmp k l) ≡ Less → nat_cmp k l ≡ Less
second_less i m n k l a b e = grind (arith, a, b, e)

-- the second numbers behind a pair with the first number are greater than its own
seconds_above : (i : ℕ) (p : ℕ × ℕ) (ps : List (ℕ × ℕ)) → nat_eq p.0 i ≡ true → AllByRecursion (λ q. pair_cmp p q ≡ Less) ps → AllByRecursion (λ n. nat_cmp p.1 n ≡ Less) (seconds_at i ps)
seconds_above i p [] e h = tt
seconds_above i p (q ∷ ps) e h = go (nat_eq q.0 i) refl (seconds_above i p ps e h.1)
  where
    go : (b : Bool) → nat_eq q.0 i ≡ b → AllByRecursion (λ n. nat_cmp p.1 n ≡ Less) (seconds_at i ps) → AllByRecursion (λ n. nat_cmp p.1 n ≡ Less) (map (λ r. r.1) (cond b (q ∷ filter (λ r. nat_eq r.0 i) ps) (filter (λ r. nat_eq r.0 i) ps)))
    go true f k = (second_less i p.0 q.0 p.1 q.1 e f h.0, k)
    go false f k = k

-- the second numbers of pairs with one first number ascend
pub seconds_ascend : (i : ℕ) (ps : List (ℕ × ℕ)) → IsStrictlySortedBy pair_cmp ps → IsStrictlySortedBy nat_cmp (seconds_at i ps)
unfolding IsStrictlySortedBy
seconds_ascend i [] h = tt
seconds_ascend i (p ∷ ps) h = go (nat_eq p.0 i) refl (seconds_ascend i ps h.1)
  where
    go : (b : Bool) → nat_eq p.0 i ≡ b → IsStrictlySortedBy nat_cmp (seconds_at i ps) → IsStrictlySortedBy nat_cmp (map (λ r. r.1) (cond b (p ∷ filter (λ r. nat_eq r.0 i) ps) (filter (λ r. nat_eq r.0 i) ps)))
    go true e k = (seconds_above i p ps e h.0, k)
    go false e k = k

start_is : (n i : ℕ) (ps : List (ℕ × ℕ)) → i ≤ n → group_begin (run_starts n ps) i ≡ count_below i ps
start_is n i ps h =
    get_or_from_slice_get (run_starts n ps) i (count_below i ps) 0
    (slice_get-map (λ k. count_below k ps) (below (suc n)) i ∙ ap (option_map (λ k. count_below k ps)) (slice_get-below (suc n) i (omega (arith, h))))

-- the second numbers of pairs that ascend, cut at the places where the first number changes
module _ (n : ℕ) (ps : List (ℕ × ℕ)) (sorted : IsStrictlySortedBy pair_cmp ps) where
  run_at : (i : ℕ) → i < n → slice_range (second_numbers ps) (group_begin (run_starts n ps) i) (group_begin (run_starts n ps) (suc i)) ≡ seconds_at i ps
  run_at i h =
      (λ k. slice_range (second_numbers ps) (start_is n i ps (omega (arith, h)) k) (start_is n (suc i) ps (omega (arith, h)) k))
      ∙ sym (map-range (λ p. p.1) ps (count_below i ps) (count_below (suc i) ps))
      ∙ ap (map (λ p. p.1)) (sym (run_is i ps (firsts_rise ps sorted)))

  pub groups_are : groups_at n (run_starts n ps) (second_numbers ps) ≡ seconds_below n ps
  groups_are = map-below (λ i. slice_range (second_numbers ps) (group_begin (run_starts n ps) i) (group_begin (run_starts n ps) (suc i))) (λ i. seconds_at i ps) n run_at

  pub runs_group : AreGroups n (run_starts n ps) (second_numbers ps)
  runs_group = record {
    many = length-map (below (suc n)) (λ i. count_below i ps) ∙ length-below (suc n) ∙ (let e : suc n ≡ n + 1 = omega arith in e);
    rise = λ i h. omega (arith, start_is n i ps (omega (arith, h)), start_is n (suc i) ps (omega (arith, h)), count_rises i (suc i) ps (omega arith));
    within = λ i h. omega (arith, start_is n (suc i) ps (omega (arith, h)), count_within (suc i) ps, length-map ps (λ p. p.1));
    ascend = subst (Every (IsStrictlySortedBy nat_cmp)) (sym groups_are) (Every-onto (IsStrictlySortedBy nat_cmp) (λ i. seconds_at i ps) (below n) (Every-below (λ i. IsStrictlySortedBy nat_cmp (seconds_at i ps)) n (λ i h. seconds_ascend i ps sorted)));
  }

-- so many cells are an array of rank 1
pub seconds_full : (n : ℕ) (ps : List (ℕ × ℕ)) → IsTable (seconds_table n ps)
seconds_full n ps = record {
  some = omega arith;
  few = omega arith;
  full = omega (arith, length-map (seconds_below n ps) numbers_set, length-map (below n) (λ i. seconds_at i ps), length-below n);
}
