-- Comparisons, and the ways to their sides.
use Rattle.std.specs.Prelude.{Bool, true, false, List, [], ◌∷◌}
use Rattle.nrca_term.specs.Term.{Term}
use Rattle.nrca_term.specs.Rules.{Way, IsComparison}

-- whether the term is a comparison
abbrev pub Compares : Bool → Term → Type 0
Compares true t = IsComparison t
Compares false t = IsComparison t → ⊥

-- the ways from a comparison to its two sides
abbrev pub the_sides : List Way
the_sides = (0 ∷ []) ∷ (1 ∷ []) ∷ []
