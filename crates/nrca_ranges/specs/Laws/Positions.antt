-- What is known of positions is the same at all places of a term (`positions-at`).
use Rattle.std.proofs.Common.{◌≡◌, ℕ, List, [], ◌∷◌, Option, Some, None, refl}
use Rattle.nrca_term.specs.Term.{Term, parts_of, child_of}
use Rattle.nrca_term.specs.Facts.{Context, enter_facts, context_below}
use Rattle.nrca_ranges.specs.Bounds.{Ranges}
use Rattle.nrca_ranges.specs.Transfer.{enter_ranges, ranges_at}

pub positions-at : (path : List ℕ) (gs : Ranges) (c : Context) (t : Term) → (ranges_at gs c t path).positions ≡ gs.positions
positions-at [] gs c t = refl
positions-at (i ∷ path) gs c t = below (λ u. positions-at path (enter_ranges gs c t i) (enter_facts c t i) u) (child_of (parts_of t) i)
  where
    below : ((u : Term) → (ranges_at (enter_ranges gs c t i) (enter_facts c t i) u path).positions ≡ gs.positions) → (o : Option Term) →
        (context_below gs o (λ u. ranges_at (enter_ranges gs c t i) (enter_facts c t i) u path)).positions ≡ gs.positions
    below h None = refl
    below h (Some u) = h u
