-- The value of a term lies within its span, wherever the facts of the place hold (`span-sound`).
use Rattle.std.proofs.Common.{◌≡◌, ℕ, ◌≤◌, Some}
use Rattle.aql_value.specs.Datum.{Datum, natural}
use Rattle.nrca_term.specs.Firm.{Span}

-- a number of the interval
abbrev pub IsInSpan : ℕ × ℕ → Datum → Type 0
IsInSpan x v = (n : ℕ) × (v ≡ natural n) × (x.0 ≤ n) × (n ≤ x.1)

-- within the span, if there is one
abbrev pub Between : ℕ → Span → Type 0
Between m s = (y : ℕ × ℕ) → s ≡ Some y → (y.0 ≤ m) × (m ≤ y.1)
