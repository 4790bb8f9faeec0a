-- The array that packed pairs of naturals make: its cells are the sets of the second numbers.
use Rattle.std.proofs.Common.{◌≡◌, ℕ, ◌*◌, ◌<◌, ◌^◌, Bool, true, false, List, [], ◌∷◌, length, map, Some, refl, sym, ◌∙◌, ap, arith}
use Rattle.std.specs.Prelude.{nat_lt, nat_eq, ◌&&◌, cond}
use Rattle.std.specs.List.{filter, flat_map, range_with_len}
use Rattle.std.specs.List.Sorted.{IsStrictlySortedBy}
use Rattle.std.specs.Cmp.Lexicographic.{pointwise}
use Rattle.std.specs.Ordering.{nat_cmp}
use Rattle.aql_value.specs.Datum.{Datum, natural, array, set, data_of}
use Rattle.aql_value.specs.Indices.{product, indices}
use Rattle.aql_value.specs.Laws.Canon.{canon_ascending}
use Rattle.aql_value.specs.Laws.Operations.{array_of-made}
use Rattle.aql_value.specs.Lists.{below}
use Rattle.aql_value.specs.Operations.{as_indexed, array_of, dims_above, all_in_range, set_of, values_at}
use Rattle.aql_value.specs.Partial.{◌>>=◌, each}
use Rattle.nrca_array.specs.Groups.{numbers_set, seconds_at, seconds_below}
use Rattle.nrca_array.specs.Laws.Groups.{map-below, seconds_ascend, seconds_full}
use Rattle.nrca_sets.specs.Laws.Packed.{ascending_kept}
use Rattle.nrca_sets.specs.Pairs.{pair_cmp, pair_value}
use Rattle.nrca_sets.specs.Runs.{first_index}
use Rattle.nrca_loops.specs.Laws.Run.{range_whole}
use Rattle.nrca_forms.specs.Indexing.{pairs_run, pairs_value, pairs_turns, AreRanked, set_cells}
use Rattle.nrca_forms.specs.Packed.{indexed_number, indexed_numbers}
use Rattle.nrca_forms.proofs.Arrays.{dims_of, cells_of, value_made, turns_made}

each-indexed : (ps : List (ℕ × ℕ)) → each (as_indexed 1) (map pair_value ps) ≡ Some (indexed_numbers ps)
each-indexed [] = refl
each-indexed (p ∷ ps) = ap (λ o. o >>= λ l. Some (indexed_number p ∷ l)) (each-indexed ps)

-- the pairs that packed members are
pub packed_members : (ms : List Datum) (ps : List (ℕ × ℕ)) → ms ≡ map pair_value ps → pairs_run 1 ms 0 (length ms) ≡ Some (indexed_numbers ps)
packed_members ms ps e = ap (each (as_indexed 1)) (range_whole ms (length ms) refl ∙ e) ∙ each-indexed ps

pub first_indices : (ps : List (ℕ × ℕ)) → map (λ p. p.0) (indexed_numbers ps) ≡ map first_index ps
first_indices [] = refl
first_indices (p ∷ ps) = ap (λ l. first_index p ∷ l) (first_indices ps)

pub all_ranked : (ps : List (ℕ × ℕ)) → AreRanked 1 (Some (indexed_numbers ps))
all_ranked [] = tt
all_ranked (p ∷ ps) = (refl, all_ranked ps)

same_index : (i k : ℕ) → (nat_eq i k && true) ≡ nat_eq k i
same_index i k = grind arith

kept_values : (p : ℕ × ℕ) (b : Bool) (qs : List (List ℕ × Datum)) (rs : List (ℕ × ℕ)) → map (λ q. q.1) qs ≡ map natural (map (λ r. r.1) rs) →
    map (λ q. q.1) (cond b (indexed_number p ∷ qs) qs) ≡ map natural (map (λ r. r.1) (cond b (p ∷ rs) rs))
kept_values p true qs rs e = ap (λ l. natural p.1 ∷ l) e
kept_values p false qs rs e = e

-- the values with an index are the second numbers with that first number
values_are : (i : ℕ) (ps : List (ℕ × ℕ)) → values_at (i ∷ []) (indexed_numbers ps) ≡ map natural (seconds_at i ps)
values_are i [] = refl
values_are i (p ∷ ps) =
    ap (λ b. map (λ q. q.1) (cond b (indexed_number p ∷ filter (λ q. pointwise nat_eq (i ∷ []) q.0) (indexed_numbers ps)) (filter (λ q. pointwise nat_eq (i ∷ []) q.0) (indexed_numbers ps)))) (same_index i p.0)
    ∙ kept_values p (nat_eq p.0 i) (filter (λ q. pointwise nat_eq (i ∷ []) q.0) (indexed_numbers ps)) (filter (λ q. nat_eq q.0 i) ps) (values_are i ps)

one_each : (is : List ℕ) → flat_map (λ i. (i ∷ []) ∷ []) is ≡ map (λ i. i ∷ []) is
one_each [] = refl
one_each (i ∷ is) = ap (λ l. (i ∷ []) ∷ l) (one_each is)

-- the indices of rank 1
indices_one : (n : ℕ) → indices (n ∷ []) ≡ map (λ i. i ∷ []) (below n)
unfolding indices
indices_one n = one_each (range_with_len 0 n)

map-twice : {A B C : Type 0} (f : A → B) (g : B → C) (xs : List A) → map g (map f xs) ≡ map (λ x. g (f x)) xs
map-twice f g [] = refl
map-twice f g (x ∷ xs) = ap (λ l. g (f x) ∷ l) (map-twice f g xs)

module _ (n : ℕ) (ps : List (ℕ × ℕ)) (sorted : IsStrictlySortedBy pair_cmp ps) where
  cell_is : (i : ℕ) → set_of (values_at (i ∷ []) (indexed_numbers ps)) ≡ numbers_set (seconds_at i ps)
  cell_is i =
      ap set_of (values_are i ps)
      ∙ ap (λ l. set (data_of l)) (canon_ascending (map natural (seconds_at i ps)) (ascending_kept natural nat_cmp (λ x y. refl) (seconds_at i ps) (seconds_ascend i ps sorted)))

  -- the sets of the values at each index are those of the second numbers
  pub cells_are : set_cells (n ∷ []) (indexed_numbers ps) ≡ map numbers_set (seconds_below n ps)
  cells_are =
      ap (map (λ at. set_of (values_at at (indexed_numbers ps)))) (indices_one n)
      ∙ map-twice (λ i. i ∷ []) (λ at. set_of (values_at at (indexed_numbers ps))) (below n)
      ∙ map-below (λ i. set_of (values_at (i ∷ []) (indexed_numbers ps))) (λ i. numbers_set (seconds_at i ps)) n (λ i h. cell_is i)
      ∙ sym (map-twice (λ i. seconds_at i ps) numbers_set (below n))

  module _ (dims : dims_above 1 (map first_index ps) ≡ n ∷ []) (small : n < 2 ^ 128) where
    dims_are : dims_of 1 (indexed_numbers ps) ≡ n ∷ []
    dims_are = ap (dims_above 1) (first_indices ps) ∙ dims

    fits : all_in_range (dims_of 1 (indexed_numbers ps)) ≡ true
    fits = ap all_in_range dims_are ∙ (let e : nat_lt n (2 ^ 128) ≡ true = grind (arith, small) in ap (λ b. b && true) e)

    full : product (n ∷ []) ≡ length (map numbers_set (seconds_below n ps))
    full = (seconds_full n ps).full

    -- the array that the pairs make
    pub packed_value : pairs_value 1 (Some (indexed_numbers ps)) ≡ Some (array (n ∷ []) (data_of (map numbers_set (seconds_below n ps))))
    packed_value =
        value_made 1 (indexed_numbers ps) (all_ranked ps) (omega arith) (omega arith) fits
        ∙ (λ k. array_of (dims_are k) (cells_of (dims_are k) (indexed_numbers ps)))
        ∙ ap (array_of (n ∷ [])) cells_are
        ∙ array_of-made (n ∷ []) (map numbers_set (seconds_below n ps)) (omega arith) (omega arith) full

    -- and its cells
    pub packed_turns : pairs_turns 1 (Some (indexed_numbers ps)) ≡ n
    packed_turns =
        turns_made 1 (indexed_numbers ps) (all_ranked ps) (omega arith) (omega arith) fits
        ∙ ap product dims_are
        ∙ (let e : n * 1 ≡ n = omega arith in e)
