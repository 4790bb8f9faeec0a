-- Lists of naturals that are kept one after the other, and the lists that pairs of naturals make.
use Rattle.std.specs.Prelude.{◌≡◌, ℕ, suc, ◌+◌, ◌<◌, ◌≤◌, nat_eq, List, [], ◌∷◌, length, map}
use Rattle.std.specs.List.{filter, slice_range}
use Rattle.std.specs.List.Sorted.{IsStrictlySortedBy}
use Rattle.std.specs.Ordering.{nat_cmp}
use Rattle.std.proofs.Common.{get_or}
use Rattle.aql_value.specs.Datum.{Datum, Table, natural, set, data_of}
use Rattle.aql_value.specs.Lists.{below, Every}

-- the set of numbers that ascend
abbrev pub numbers_set : List ℕ → Datum
numbers_set ns = set (data_of (map natural ns))

-- where the list of that number begins; it ends where the next begins
abbrev pub group_begin : List ℕ → ℕ → ℕ
group_begin starts i = get_or starts i 0

-- the first n lists that stand one after the other in the members
abbrev pub groups_at : (n : ℕ) → (starts members : List ℕ) → List (List ℕ)
groups_at n starts members = map (λ i. slice_range members (group_begin starts i) (group_begin starts (suc i))) (below n)

-- n lists that each ascend, from the place under its number up to the next place
pub record AreGroups (n : ℕ) (starts members : List ℕ) : Type 0 where
  pub many : length starts ≡ n + 1
  pub rise : (i : ℕ) → i < n → group_begin starts i ≤ group_begin starts (suc i)
  pub within : (i : ℕ) → i < n → group_begin starts (suc i) ≤ length members
  pub ascend : Every (IsStrictlySortedBy nat_cmp) (groups_at n starts members)

-- the second numbers of the pairs with that first number
abbrev pub seconds_at : ℕ → List (ℕ × ℕ) → List ℕ
seconds_at i ps = map (λ p. p.1) (filter (λ p. nat_eq p.0 i) ps)

-- the second numbers of all
abbrev pub second_numbers : List (ℕ × ℕ) → List ℕ
second_numbers ps = map (λ p. p.1) ps

-- those of each first number below n
abbrev pub seconds_below : ℕ → List (ℕ × ℕ) → List (List ℕ)
seconds_below n ps = map (λ i. seconds_at i ps) (below n)

-- the array of n cells, of which each is the set of the second numbers of the pairs with its index as the first number
abbrev pub seconds_table : ℕ → List (ℕ × ℕ) → Table
seconds_table n ps = record { dims = n ∷ []; cells = map numbers_set (seconds_below n ps) }
