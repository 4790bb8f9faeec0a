-- What is known of values, as data: what contracts see of a `Shape`, and which values it is known of.
use Rattle.std.proofs.Common.{◌≡◌, ℕ, ◌-◌, ◌<◌, ◌≤◌, ◌^◌, List, [], ◌∷◌, length, reverse, ◌++◌, Option}
use Rattle.aql_value.specs.Canon.{canon}
use Rattle.aql_value.specs.Datum.{Datum, Data, natural, tuple, set, array, list_of}
use Rattle.aql_value.specs.Lists.{Every}
use Rattle.nrca_ranges.specs.declared.interval.Interval.{Interval}

mutual
  -- nothing; the interval of a number; what is known of the parts of a tuple; the interval of the number of a set's members,
  -- and what is known of each; the intervals of an array's dimensions, and what is known of each cell
  pub data Bounds : Type 0 where
    unknown : Bounds
    number : Interval → Bounds
    row : Row → Bounds
    members : Interval → Bounds → Bounds
    grid : List Interval → Bounds → Bounds

  -- what is known of the parts of a tuple, in order
  pub data Row : Type 0 where
    end : Row
    entry : Bounds → Row → Row

-- what is known of values, in order, as the parts of a tuple
abbrev pub row_of : List Bounds → Row
row_of [] = end
row_of (b ∷ bs) = entry b (row_of bs)

-- a number is at most `high`, where 2^128-1 means that or more
abbrev pub UpTo : ℕ → ℕ → Type 0
UpTo high n = high < 2 ^ 128 - 1 → n ≤ high

-- a number of the interval
abbrev pub IsIn : Interval → ℕ → Type 0
IsIn i n = (i.low ≤ n) × UpTo i.high n

-- numbers, each of its interval
abbrev pub AreIn : List Interval → List ℕ → Type 0
AreIn [] [] = Unit {0}
AreIn [] (n ∷ ns) = ⊥
AreIn (i ∷ is) [] = ⊥
AreIn (i ∷ is) (n ∷ ns) = IsIn i n × AreIn is ns

-- members of a set: different ones at least as many as the lower end, and in all no more than the upper end
abbrev pub IsCount : Interval → List Datum → Type 0
IsCount i ms = (i.low ≤ length (canon ms)) × UpTo i.high (length ms)

abbrev mutual
  -- a value of the shape
  pub HasShape : Bounds → Datum → Type 0
  HasShape unknown v = Unit {0}
  HasShape (number i) v = (n : ℕ) × (v ≡ natural n) × IsIn i n
  HasShape (row bs) v = (vs : Data) × (v ≡ tuple vs) × HaveShapes bs (list_of vs)
  HasShape (members i b) v = (ms : Data) × (v ≡ set ms) × IsCount i (list_of ms) × Every (HasShape b) (list_of ms)
  HasShape (grid is b) v = (ds : List ℕ) × (cs : Data) × (v ≡ array ds cs) × AreIn is ds × Every (HasShape b) (list_of cs)

  -- values, each of its shape
  pub HaveShapes : Row → List Datum → Type 0
  HaveShapes end [] = Unit {0}
  HaveShapes end (v ∷ vs) = ⊥
  HaveShapes (entry b bs) [] = ⊥
  HaveShapes (entry b bs) (v ∷ vs) = HasShape b v × HaveShapes bs vs

-- what is known of the values of a place: of those of the positions that have one, and of the variables, the outermost first
pub record Ranges : Type 0 where
  pub positions : List (Option Bounds)
  pub variables : List Bounds

-- at the root of a closed term there is no variable
abbrev pub at_root : List (Option Bounds) → Ranges
at_root gs = record { positions = gs; variables = [] }

-- with further variables inside of the others
abbrev pub with_own : Ranges → List Bounds → Ranges
with_own gs own = record { positions = gs.positions; variables = gs.variables ++ own }

-- values of the variables, the innermost first, each of the shape of its variable
abbrev pub VariablesFit : Ranges → List Datum → Type 0
VariablesFit gs vals = HaveShapes (row_of (reverse gs.variables)) vals
