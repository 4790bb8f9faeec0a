-- What a value shows of itself, and the exact intervals of terms.
use Rattle.std.proofs.Common.{ℕ, List, [], ◌∷◌, length, map}
use Rattle.aql_value.specs.Datum.{Datum, natural, truth, text, tuple, set, array, list_of}
use Rattle.nrca_term.specs.Term.{Term}
use Rattle.nrca_ranges.specs.declared.interval.Interval.{Interval}
use Rattle.nrca_ranges.specs.declared.context.Ctx.{Ctx}
use Rattle.nrca_ranges.specs.Bounds.{Bounds, unknown, number, members, grid}
use Rattle.nrca_ranges.specs.Intervals.{between}
use Rattle.nrca_ranges.specs.Shapes.{IsExactNumber}

-- one number alone
abbrev pub only : ℕ → Interval
only n = between n n

-- of a number that number, of a set how many members it has, of an array its dimensions
abbrev pub exact_bounds : Datum → Bounds
exact_bounds (natural n) = number (only n)
exact_bounds (truth b) = unknown
exact_bounds (text s) = unknown
exact_bounds (tuple vs) = unknown
exact_bounds (set ms) = members (only (length (list_of ms))) unknown
exact_bounds (array ds cs) = grid (map only ds) unknown

-- of terms, each with its interval: of a small term it is that of what is known of its value
abbrev pub AreExactNumbers : Ctx → List Term → List Interval → Type 0
AreExactNumbers c [] [] = Unit {0}
AreExactNumbers c [] (i ∷ is) = ⊥
AreExactNumbers c (t ∷ ts) [] = ⊥
AreExactNumbers c (t ∷ ts) (i ∷ is) = IsExactNumber c t i × AreExactNumbers c ts is
