-- Walking the members of two sets together, each member once.
use Rattle.std.specs.Prelude.{◌≡◌, ℕ, ◌+◌, Bool, List, [], ◌∷◌, ◌++◌, drop, Option, Some, None, MatchOption, if◌then◌else◌}
use Rattle.std.specs.List.{slice_get}
use Rattle.std.specs.declared.cmp.Ordering.{Ordering}
use Rattle.std.specs.declared.cmp.Ordering.TheVariants.{Less, Greater}
use Rattle.aql_value.specs.Canon.{canon}
use Rattle.aql_value.specs.Datum.{Datum}
use Rattle.aql_value.specs.Meaning.{datum}
use Rattle.aql_value.specs.Order.{datum_cmp}
use Rattle.nrca_array.specs.Held.{held_datum}
use Rattle.nrca_loops.specs.declared.members.Members.{Members}
use Rattle.nrca_loops.specs.declared.members.Members.TheVariants.{Below, Listed, Both}
use Rattle.nrca_loops.specs.declared.members.Next.{Next}
use Rattle.nrca_loops.specs.declared.walk.Member.{Member}
use Rattle.nrca_loops.specs.declared.walk.Sides.{Sides}
use Rattle.nrca_loops.specs.declared.walk.Taken.{Taken}
use Rattle.nrca_loops.specs.Runs.{member_list}

-- what is left of two ascending lists from these places on
abbrev pub both_rest : List Datum → List Datum → ℕ → ℕ → List Datum
both_rest xs ys i j = canon (drop i xs ++ drop j ys)

-- the order of the first elements; one that is there comes before one that is not
abbrev pub first_order : List Datum → List Datum → Option Ordering
first_order [] [] = None
first_order (x ∷ xs) [] = Some Less
first_order [] (y ∷ ys) = Some Greater
first_order (x ∷ xs) (y ∷ ys) = Some (datum_cmp x y)

-- the least member that is left stands on this side, and the lists go on from these places
pub record TakesLeast (xs ys : List Datum) (i j : ℕ) (from_left : Bool) (p q : ℕ) : Type 0 where
  pub member : Datum
  pub there : (if from_left then slice_get xs i else slice_get ys j) ≡ Some member
  pub rest : both_rest xs ys i j ≡ member ∷ both_rest xs ys p q

-- the step comes to the least member that is left at the places, or none is left
abbrev pub StepsOn : List Datum → List Datum → ℕ → ℕ → Option Taken → Type 0
StepsOn xs ys i j r = MatchOption r (both_rest xs ys i j ≡ []) (λ t. TakesLeast xs ys i j t.from_left t.left t.right)

-- before the places stand the first k members of both lists
abbrev pub AreBefore : List Datum → List Datum → ℕ → Sides → Type 0
AreBefore xs ys k s = both_rest xs ys s.left s.right ≡ drop k (canon (xs ++ ys))

-- it is the least member that is left at the places, and the others are left at those behind it
abbrev pub IsFirst : List Datum → List Datum → Sides → Member → Type 0
IsFirst xs ys s m = both_rest xs ys s.left s.right ≡ datum m.member ∷ both_rest xs ys m.sides.left m.sides.right

-- the places on both sides before which stand the first k members
abbrev pub IsAt : Members → ℕ → Sides → Type 0
IsAt (Below n) k s = Unit {0}
IsAt (Listed set) k s = Unit {0}
IsAt (Both a b) k s = AreBefore a b k s

-- it is the member of that place, and a walk behind it
abbrev pub IsNext : Members → ℕ → Next → Type 0
IsNext ms k n = (slice_get (member_list ms) k ≡ Some (held_datum n.member)) × IsAt ms (k + 1) n.sides
