use Rattle.nrca_term.specs.Term.{parts_of, weight_of}
use Rattle.nrca_term.specs.View.{term_of}
use Rattle.nrca_term.proofs.ConstantParts.{BelowHaveConstants}
use Rattle.nrca_term.proofs.validity.+constants.Given as goal

abbrev pub decreases-constants : goal.decreases-constants
decreases-constants l = weight_of (term_of l.term.now)

abbrev pub invariant-loop-i : goal.invariant-loop-i
invariant-loop-i l = BelowHaveConstants l.i (parts_of (term_of l.term))
