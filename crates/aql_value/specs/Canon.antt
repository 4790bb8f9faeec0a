-- Sets as strictly ascending lists.
use Rattle.std.specs.Prelude.{◌≡◌, ◌⊎◌, List, [], ◌∷◌}
use Rattle.std.specs.List.Sorted.{IsStrictlySortedBy}
use Rattle.std.specs.Ordering.{match_ordering}
use Rattle.aql_value.specs.Datum.{Datum}
use Rattle.aql_value.specs.Order.{datum_cmp}

-- each is smaller than all that follow it
abbrev pub IsAscending : List Datum → Type 0
IsAscending = IsStrictlySortedBy datum_cmp

-- z stands in the list
abbrev pub IsMember : Datum → List Datum → Type 0
IsMember z [] = ⊥
IsMember z (x ∷ xs) = (x ≡ z) ⊎ IsMember z xs

-- an ascending list with x in its place, or as it is where x is a member
abbrev pub put : Datum → List Datum → List Datum
put x [] = x ∷ []
put x (y ∷ ys) = match_ordering (datum_cmp x y) (x ∷ y ∷ ys) (y ∷ ys) (y ∷ put x ys)

-- the strictly ascending list with the same members
abbrev pub canon : List Datum → List Datum
canon [] = []
canon (x ∷ xs) = put x (canon xs)
