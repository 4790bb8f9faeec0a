use Rattle.std.proofs.Common.{◌*◌, ◌+◌}
use Rattle.nrca_term.specs.Term.{weight_of}
use Rattle.nrca_term.specs.View.{term_of}
use Rattle.nrca_subst.proofs.Equal.{FirstShifted}
use Rattle.nrca_subst.proofs.comparing.+same.Given as goal

abbrev pub invariant-same_parts-loop-i : goal.invariant-same_parts-loop-i
invariant-same_parts-loop-i l = FirstShifted l.depth l.by (term_of l.a) (term_of l.b) l.i

abbrev pub decreases-same_under : goal.decreases-same_under
decreases-same_under l = 2 * weight_of (term_of l.a.now) + 1

abbrev pub decreases-same_parts : goal.decreases-same_parts
decreases-same_parts l = 2 * weight_of (term_of l.a.now)
