use Rattle.std.proofs.Common.{ℕ, ◌<◌}
use Rattle.nrca_term.specs.View.{term_of}
use Rattle.nrca_motion.specs.Fitting.{IsStrictLet}
use Rattle.nrca_motion.proofs.fitting.first_let.Given as goal

abbrev pub invariant-loop-i : goal.invariant-loop-i
invariant-loop-i l = (j : ℕ) → j < l.i → IsStrictLet (term_of l.term) j → ⊥
