-- The numbers that a block added last, in a table of 128 slots, a number in the slot of its remainder by 128.
use Rattle.std.specs.Prelude.{◌≡◌, ℕ, ◌%◌, List, slice_index}
use Rattle.aql_value.specs.Canon.{IsMember}
use Rattle.aql_value.specs.Datum.{Datum, natural}

-- the number stands in its slot
abbrev pub IsRecent : List ℕ → ℕ → Type 0
IsRecent slots n = slice_index slots (n % 128) ≡ n

-- each number that stands in its slot is a member
abbrev pub AreMembers : List ℕ → List Datum → Type 0
AreMembers slots xs = (n : ℕ) → IsRecent slots n → IsMember (natural n) xs
