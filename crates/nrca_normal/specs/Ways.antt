-- The ways from the left side of a rule to the terms that must have a value, as the code names them.
use Rattle.std.proofs.Common.{◌≡◌, ℕ, ◌+◌, ◌<◌, ◌^◌, Bool, true, false, List, [], ◌∷◌, map}
use Rattle.nrca_term.specs.declared.trace.Rule.{Rule}
use Rattle.nrca_term.specs.Term.{Term}
use Rattle.nrca_term.specs.Nodes.{position}
use Rattle.nrca_term.specs.Rules.{Way, Redex, Atom, in_first, others}
use Rattle.nrca_normal.specs.declared.ways.Ways.{Ways}
use Rattle.nrca_normal.specs.declared.ways.Ways.TheVariants.{Free, First, Inner, Others}

-- `count` parts of the first part, from part `from` on, but for one
abbrev pub other_ways : (from but count : ℕ) → List Way
other_ways from but count = in_first (map (λ i. from + i) (others but count))

-- the ways that a name stands for
abbrev pub ways_in : Ways → List Way
ways_in Free = []
ways_in First = (0 ∷ []) ∷ []
ways_in (Inner i) = in_first (i ∷ [])
ways_in (Others from but count) = other_ways from but count

-- the numbers of the parts stay below 2^64
abbrev pub HasRoom : Ways → Type 0
HasRoom (Others from but count) = from + count < 2 ^ 64
HasRoom _ = Unit {0}

-- the ways of the rule at the term, whatever its right side
unfoldable pub AreWays : Rule → Term → Ways → Type 0
AreWays R t w = (r : Term) (ws : List Way) → Redex R t r ws → ws ≡ ways_in w

-- the ways of a let of an atom
unfoldable pub AreAtomWays : Term → Ways → Type 0
AreAtomWays a w = (ws : List Way) → Atom a ws → ws ≡ ways_in w

-- whether the term is a position
abbrev pub IsPosition : Bool → Term → Type 0
IsPosition true t = (n : ℕ) × (t ≡ position n)
IsPosition false t = (n : ℕ) → t ≡ position n → ⊥
