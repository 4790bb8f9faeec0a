use Rattle.std.proofs.Common.{◌<◌, ℕ}
use Rattle.nrca_term.specs.View.{term_of}
use Rattle.nrca_setrules.specs.Strictly.{IsStrictBottom}
use Rattle.nrca_setrules.proofs.bottoms.fits_b1.Given as goal

abbrev pub invariant-loop-i : goal.invariant-loop-i
invariant-loop-i l = (j : ℕ) → j < l.i → IsStrictBottom j (term_of l.term) → ⊥
