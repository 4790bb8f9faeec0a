use Rattle.std.proofs.Common.{◌≡◌}
use Rattle.nrca_term.specs.View.{term_of}
use Rattle.nrca_term.specs.Subst.{shift_term}
use Rattle.nrca_motion.proofs.outside.strengthen.Given as goal

abbrev pub invariant-loop : goal.invariant-loop
invariant-loop l = term_of l.fn.term ≡ shift_term 0 l.counter (term_of l.lowered)
