-- One move at the end of a path.
use Rattle.std.proofs.Common.{◌≡◌, ℕ, List, Some}
use Rattle.nrca_term.specs.Term.{Term}
use Rattle.nrca_term.specs.Places.{place_of, put_at}
use Rattle.nrca_motion.specs.declared.fitting.Fit.{Fit}
use Rattle.nrca_motion.specs.Outside.{HasRoom}
use Rattle.nrca_motion.specs.Fitting.{FitsAt, IsMade}

-- a term with room stands there that is a left side
unfoldable pub MayMoveAt : Fit → Term → List ℕ → Type 0
MayMoveAt f t p = (l : Term) × (place_of t p ≡ Some l) × FitsAt f.rule f.part l × HasRoom l

-- the right side stands in its place
unfoldable pub IsMovedAt : Fit → Term → List ℕ → Term → Type 0
IsMovedAt f t p u = (l r : Term) × (place_of t p ≡ Some l) × IsMade f l r × (u ≡ put_at t p r)
