-- Small terms at the places of a small term.
use Rattle.std.proofs.Common.{◌≡◌, ℕ, ◌+◌, List, [], ◌∷◌, Some, subst}
use Rattle.nrca_term.specs.Term.{Term, WellFormed, parts_of, binders_of}
use Rattle.nrca_term.specs.Places.{place_of}
use Rattle.nrca_term.specs.Laws.Measure.{through}
use Rattle.nrca_term.specs.Laws.WellFormed.{well_formed-child}
use Rattle.nrca_ranges.specs.Context.{IsSmallTerm}
use Rattle.nrca_ranges.specs.Laws.Entered.{inside-part}
use Rattle.nrca_motion.specs.Outside.{HasRoom}
use Rattle.nrca_motion.specs.Laws.Fitting.{room-small}

-- a place of a small term has room
pub room-place : (path : List ℕ) (n : ℕ) (t l : Term) → WellFormed t → IsSmallTerm n t → place_of t path ≡ Some l → HasRoom l
room-place [] n t l w h e = let z : t ≡ l = cc in subst HasRoom z (room-small n t w h)
room-place (i ∷ path) n t l w h e =
    let r = through (parts_of t) i path l e in
    room-place path (n + binders_of (parts_of t) i) r.0 l (well_formed-child t i r.0 w r.1) (inside-part n t i r.0 w r.1 h) r.2
