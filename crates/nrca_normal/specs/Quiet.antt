-- Where no rule may be applied.
use Rattle.std.proofs.Common.{ℕ}
use Rattle.nrca_term.specs.Term.{Term}
use Rattle.nrca_term.specs.Facts.{Context}
use Rattle.nrca_rule_laws.specs.Search.{AllPlaces, FirstParts}
use Rattle.nrca_ranges.specs.Bounds.{Ranges}
use Rattle.nrca_normal.specs.Conditions.{IsQuietAt}

-- no rule may be applied at any place of the term
unfoldable pub QuietEverywhere : Ranges → Context → Term → Type 0
QuietEverywhere gs c t = AllPlaces (IsQuietAt gs) c t

-- nor at any place of its first n parts
unfoldable pub QuietParts : Ranges → Context → Term → ℕ → Type 0
QuietParts gs c t n = FirstParts (IsQuietAt gs) c t n
