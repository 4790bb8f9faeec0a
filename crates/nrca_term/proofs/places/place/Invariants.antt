use Rattle.std.proofs.Common.{◌≡◌, drop}
use Rattle.nrca_term.specs.Places.{place_of}
use Rattle.nrca_term.specs.View.{term_of}
use Rattle.nrca_term.proofs.places.place.Given as goal

abbrev pub invariant-loop-i : goal.invariant-loop-i
invariant-loop-i l = place_of (term_of l.at) (drop l.i-index l.i-items) ≡ place_of (term_of l.term) l.path
