-- Lists with an element for each member of a block.
use Rattle.std.specs.Prelude.{◌≡◌, ℕ, ◌<◌, Bool, false, List, [], ◌∷◌, nat_eq, length, Option, Some, Result, IsOkAnd, IsSomeAnd, slice_index, slice_index_or, if◌then◌else◌}
use Rattle.std.specs.declared.vec.Vec.{Vec}
use Rattle.std.proofs.Common.{Global}
use Rattle.std.specs.Ordering.{nat_cmp}
use Rattle.aql_value.specs.Datum.{Datum, natural}
use Rattle.aql_value.specs.Operations.{cell_of, part_of}
use Rattle.aql_value.specs.Ops.{arith_by, compare_by}
use Rattle.aql_value.specs.declared.memory.Memory.{Memory}
use Rattle.aql_value.specs.declared.ops.ArithOp.{ArithOp}
use Rattle.aql_value.specs.declared.ops.CompareOp.{CompareOp}
use Rattle.nrca_sets.specs.Pairs.{pair_value}
use Rattle.nrca_numbers.specs.declared.sets.Small.TheVariants as small
use Rattle.nrca_numbers.specs.declared.sets.AtMostOne.{AtMostOne}
use Rattle.nrca_numbers.specs.declared.sets.AtMostOne.TheVariants as at_most

-- it was found
abbrev pub IsFound : {A : Type 0} → Result (Option A) Memory → A → Type 0
IsFound r x = IsOkAnd r (λ o. IsSomeAnd o (λ y. y ≡ x))

-- a list was found, and this holds of it
abbrev pub FoundAnd : {A : Type 0} → Result (Option (Vec A Global)) Memory → (List A → Type 0) → Type 0
FoundAnd r P = IsOkAnd r (λ o. IsSomeAnd o (λ v. P v.items))

-- as many elements, each of which is the value
abbrev pub Repeats : {A : Type 0} → A → A → ℕ → List A → Type 0
Repeats d x count xs = (length xs ≡ count) × ((j : ℕ) → j < count → slice_index_or xs j d ≡ x)

-- the first elements of a list of numbers
abbrev pub BeginsWith : List ℕ → ℕ → List ℕ → Type 0
BeginsWith xs count ns = (length ns ≡ count) × ((j : ℕ) → j < count → slice_index ns j ≡ slice_index xs j)

-- a part of a pair, counted from 1
abbrev pub part_at : ℕ → ℕ × ℕ → ℕ
part_at at p = if nat_eq at 1 then p.0 else p.1

-- this part of the first pairs
abbrev pub AreParts : ℕ → List (ℕ × ℕ) → ℕ → List ℕ → Type 0
AreParts at ps count ns = (length ns ≡ count) × ((j : ℕ) → j < count → slice_index ns j ≡ part_at at (slice_index_or ps j (0, 0)))

-- this part, of as many, of the first pairs
abbrev pub ArePartsOf : (at of : ℕ) → List (ℕ × ℕ) → ℕ → List ℕ → Type 0
ArePartsOf at of ps count ns = (length ns ≡ count) × ((j : ℕ) → j < count → part_of at of (pair_value (slice_index_or ps j (0, 0))) ≡ Some (natural (slice_index ns j)))

-- what an operation makes of the numbers of two lists, at each place
abbrev pub AreArith : ArithOp → List ℕ → List ℕ → List ℕ → Type 0
AreArith op xs zs ys = (length zs ≡ length xs) × ((j : ℕ) → j < length xs → arith_by op (slice_index xs j) (slice_index ys j) ≡ Some (slice_index zs j))

-- whether a comparison holds of the numbers of two lists, at each place
abbrev pub AreCompared : CompareOp → List ℕ → List Bool → List ℕ → Type 0
AreCompared op xs bs ys = (length bs ≡ length xs) × ((j : ℕ) → j < length xs → slice_index_or bs j false ≡ compare_by op (nat_cmp (slice_index xs j) (slice_index ys j)))

-- at each place the element of the one or the other list, as the truth value there says
abbrev pub AreChosen : {A : Type 0} → List Bool → List A → List A → List A → Type 0
AreChosen {A} bs xs zs ys = (length zs ≡ length xs) × ((d : A) (j : ℕ) → j < length xs → slice_index_or zs j d ≡ (if slice_index_or bs j false then slice_index_or xs j d else slice_index_or ys j d))

-- the numbers that are the cells of an array of rank 1 at these indices
abbrev pub AreCellsAt : Datum → List ℕ → List ℕ → Type 0
AreCellsAt v xs zs = (length zs ≡ length xs) × ((j : ℕ) → j < length xs → cell_of v (slice_index xs j ∷ []) ≡ Some (natural (slice_index zs j)))

-- the numbers that are the cells of an array of rank 2 at these indices
abbrev pub AreTable : Datum → List ℕ → List ℕ → List ℕ → Type 0
AreTable v xs zs ys = (length zs ≡ length xs) × ((j : ℕ) → j < length xs → cell_of v (slice_index xs j ∷ slice_index ys j ∷ []) ≡ Some (natural (slice_index zs j)))

-- the sets of one number each
abbrev pub AreSets : List ℕ → List AtMostOne → Type 0
AreSets xs fs = (length fs ≡ length xs) × ((j : ℕ) → j < length xs → slice_index_or fs j at_most.Nothing ≡ at_most.One (small.Number (slice_index xs j)))

-- the sets of one pair each, of the numbers of two lists
abbrev pub ArePairSets : List ℕ → List AtMostOne → List ℕ → Type 0
ArePairSets xs fs ys = (length fs ≡ length xs) × ((j : ℕ) → j < length xs → slice_index_or fs j at_most.Nothing ≡ at_most.One (small.Pair (slice_index xs j) (slice_index ys j)))
