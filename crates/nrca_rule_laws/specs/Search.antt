-- The search in pre-order: what it has passed stays as it was when a later place is rewritten (`before-kept`).
use Rattle.std.proofs.Common.{◌≡◌, ℕ, ◌<◌, ◌⊎◌, List, [], ◌∷◌, Some}
use Rattle.nrca_term.specs.Term.{Term, parts_of, child_of}
use Rattle.nrca_term.specs.Places.{place_of}
use Rattle.nrca_term.specs.Facts.{Context, enter_facts, context_at}

-- a place that the search comes to before another, and that is not above it
abbrev pub ComesBefore : List ℕ → List ℕ → Type 0
ComesBefore [] p = ⊥
ComesBefore (i ∷ q) [] = ⊥
ComesBefore (i ∷ q) (j ∷ p) = (i < j) ⊎ ((i ≡ j) × ComesBefore q p)

-- N at each place of a term, in its context
abbrev pub AllPlaces : (Context → Term → Type 0) → Context → Term → Type 0
AllPlaces N c t = (path : List ℕ) (s : Term) → place_of t path ≡ Some s → N (context_at enter_facts c t path) s

-- N at each place that comes before p and is not above it
abbrev pub AllBefore : (Context → Term → Type 0) → Context → Term → List ℕ → Type 0
AllBefore N c t p = (q : List ℕ) (s : Term) → ComesBefore q p → place_of t q ≡ Some s → N (context_at enter_facts c t q) s

-- N of each of the first n parts
abbrev pub FirstParts : (Context → Term → Type 0) → Context → Term → ℕ → Type 0
FirstParts N c t n = (i : ℕ) (u : Term) → i < n → child_of (parts_of t) i ≡ Some u → AllPlaces N (enter_facts c t i) u
