-- Lists one after the other, as the sets that cells are.
use Rattle.std.proofs.Common.{◌≡◌, ℕ, zero, suc, ◌+◌, ◌<◌, ◌^◌, List, [], ◌∷◌, length, map, get_or, Some, refl, sym, ◌∙◌, ap, subst, arith}
use Rattle.std.specs.List.{All, slice_get, slice_range}
use Rattle.std.specs.List.Sorted.{IsStrictlySortedBy}
use Rattle.std.specs.Option.{option_map}
use Rattle.std.specs.Ordering.{nat_cmp}
use Rattle.std.proofs.lemmas.List.{length-map}
use Rattle.std.proofs.lemmas.Option.{slice_get-map}
use Rattle.aql_value.specs.Canon.{IsAscending}
use Rattle.aql_value.specs.Datum.{natural, data_of}
use Rattle.aql_value.specs.Laws.Datum.{list_of-data_of}
use Rattle.aql_value.specs.Laws.Lists.{length-below, slice_get-below, Every-get, Every-take, Every-drop, Every-below, Every-onto}
use Rattle.aql_value.specs.Lists.{below, Every}
use Rattle.aql_value.specs.Valid.{AreValues}
use Rattle.nrca_sets.specs.Laws.Packed.{ascending_kept}
use Rattle.nrca_array.specs.Groups.{numbers_set, group_begin, groups_at, AreGroups}

-- numbers that ascend do so as values
pub numbers_ascending : (ns : List ℕ) → IsStrictlySortedBy nat_cmp ns → IsAscending (map natural ns)
numbers_ascending ns h = ascending_kept natural nat_cmp (λ x y. refl) ns h

-- as many lists
pub group_count : (n : ℕ) (starts members : List ℕ) → length (groups_at n starts members) ≡ n
group_count n starts members = length-map (below n) (λ i. slice_range members (group_begin starts i) (group_begin starts (suc i))) ∙ length-below n

-- the list of a number
pub group_at : (n : ℕ) (starts members : List ℕ) (i : ℕ) → i < n → slice_get (groups_at n starts members) i ≡ Some (slice_range members (group_begin starts i) (group_begin starts (suc i)))
group_at n starts members i h =
    slice_get-map (λ k. slice_range members (group_begin starts k) (group_begin starts (suc k))) (below n) i
    ∙ ap (option_map (λ k. slice_range members (group_begin starts k) (group_begin starts (suc k)))) (slice_get-below n i h)

pub group_ascends : (n : ℕ) (starts members : List ℕ) (i : ℕ) → AreGroups n starts members → i < n → IsStrictlySortedBy nat_cmp (slice_range members (group_begin starts i) (group_begin starts (suc i)))
group_ascends n starts members i g h = Every-get (IsStrictlySortedBy nat_cmp) (groups_at n starts members) i _ g.ascend (group_at n starts members i h)

get_or_any : (xs : List ℕ) (i d e : ℕ) → i < length xs → get_or xs i d ≡ get_or xs i e
get_or_any [] i d e h = absurd (omega (arith, h))
get_or_any (x ∷ xs) zero d e h = refl
get_or_any (x ∷ xs) (suc i) d e h = get_or_any xs i d e (omega (arith, h))

-- the places that are read
pub begins : (starts : List ℕ) (i x : ℕ) → i < length starts → x ≡ get_or starts i x → x ≡ group_begin starts i
begins starts i x h e = e ∙ get_or_any starts i x 0 h

pub ends : (starts : List ℕ) (i x : ℕ) → i + 1 < length starts → x ≡ get_or starts (i + 1) x → x ≡ group_begin starts (suc i)
ends starts i x h e = e ∙ get_or_any starts (i + 1) x 0 h ∙ (let k : i + 1 ≡ suc i = omega arith in ap (λ j. get_or starts j 0) k)

numbers_valid : (ns : List ℕ) → Every (λ n. n < 2 ^ 64) ns → AreValues (data_of (map natural ns))
numbers_valid [] h = tt
numbers_valid (n ∷ ns) h = (omega (arith, h.0), numbers_valid ns h.1)

sets_valid : (gs : List (List ℕ)) → Every (IsStrictlySortedBy nat_cmp) gs → Every (λ g. Every (λ n. n < 2 ^ 64) g) gs → AreValues (data_of (map numbers_set gs))
sets_valid [] h k = tt
sets_valid (g ∷ gs) h k = ((subst IsAscending (sym (list_of-data_of (map natural g))) (numbers_ascending g h.0), numbers_valid g k.0), sets_valid gs h.1 k.1)

every_small : (ns : List ℕ) → All (λ n. n < 2 ^ 64) ns → Every (λ n. n < 2 ^ 64) ns
every_small [] h = tt
every_small (n ∷ ns) h = (h 0 0 (omega arith), every_small ns (λ k d l. h (suc k) d (omega (arith, l))))

-- the sets of members below 2^64 are values of the language
pub groups_valid : (n : ℕ) (starts members : List ℕ) → AreGroups n starts members → All (λ m. m < 2 ^ 64) members → AreValues (data_of (map numbers_set (groups_at n starts members)))
groups_valid n starts members g h =
    sets_valid (groups_at n starts members) g.ascend
    (Every-onto (λ l. Every (λ m. m < 2 ^ 64) l) (λ i. slice_range members (group_begin starts i) (group_begin starts (suc i))) (below n)
    (Every-below (λ i. Every (λ m. m < 2 ^ 64) (slice_range members (group_begin starts i) (group_begin starts (suc i)))) n
    (λ i k. Every-take (λ m. m < 2 ^ 64) _ _ (Every-drop (λ m. m < 2 ^ 64) (group_begin starts i) members (every_small members h)))))
