-- The encodings of positions that are kept.
use Rattle.std.specs.Prelude.{◌≡◌, ℕ, ◌≤◌, List, length, map, Option, Some, None}
use Rattle.aql_value.specs.Datum.{Datum}
use Rattle.nrca_array.specs.declared.held.Held.{Held}
use Rattle.nrca_loops.specs.Values.{held_value}
use Rattle.nrca_term.specs.Meaning.{Outcomes, outcome}
use Rattle.nrca_graph.specs.Encoding.{encode_outcome}

-- of a position with this outcome nothing is kept, or its encoding
abbrev pub MayBeKept : (outcome kept : Option Datum) → Type 0
MayBeKept o None = Unit {0}
MayBeKept o (Some w) = encode_outcome o ≡ Some w

-- What is kept of the positions with these outcomes: of each nothing yet, or the encoding of its outcome.
pub record AreEncodings (V E : Outcomes) : Type 0 where
  pub few : length E ≤ length V
  pub each : (n : ℕ) → MayBeKept (outcome V n) (outcome E n)

-- what is kept of a position is its encoded outcome: its encoding, or nothing where it has no value
abbrev pub IsKept : (V E : Outcomes) → (n : ℕ) → Type 0
IsKept V E n = outcome E n ≡ encode_outcome (outcome V n)

-- each position whose encoded outcome was kept still has it there
abbrev pub KeepsEncodings : (V old new : Outcomes) → Type 0
KeepsEncodings V old new = (n : ℕ) → IsKept V old n → IsKept V new n

-- the outcomes that a list of the code holds
abbrev pub outcomes_in : List (Option Held) → Outcomes
outcomes_in hs = map held_value hs

-- each position has the outcome that it had
abbrev pub SameOutcomes : (old new : Outcomes) → Type 0
SameOutcomes old new = (n : ℕ) → outcome new n ≡ outcome old n

-- position n has this value, and each other the outcome that it had
pub record PutsValue (old : Outcomes) (n : ℕ) (w : Datum) (new : Outcomes) : Type 0 where
  pub there : outcome new n ≡ Some w
  pub others : (k : ℕ) → (k ≡ n → ⊥) → outcome new k ≡ outcome old k

-- there are as many places as before, or n of them
abbrev pub ReachesTo : (n : ℕ) → (old new : Outcomes) → Type 0
ReachesTo n old new = (m : ℕ) → n ≤ m → length old ≤ m → length new ≤ m
