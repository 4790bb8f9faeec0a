-- A list in order, each element once.
use Rattle.std.specs.Prelude.{Bool, List, []}
use Rattle.std.specs.declared.cmp.Ordering.{Ordering}
use Rattle.std.specs.List.Sorted.{IsPermutation, IsSorted}
use Rattle.std.specs.List.Retain.{IsFiltered, DiffersFromLast}

-- ys has the elements of xs in order, of equal neighbours the first alone
pub record IsDistinct {X : Type 0} (cmp : X → X → Ordering) (same : X → X → Bool) (xs ys : List X) : Type 0 where
  pub sorted : List X
  pub moved : IsPermutation xs sorted
  pub in_order : IsSorted cmp sorted
  pub kept : IsFiltered (DiffersFromLast same) [] sorted ys
