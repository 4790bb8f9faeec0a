use Rattle.std.proofs.Common.{◌≡◌, ◌+◌, ◌*◌}
use Rattle.nrca_term.specs.Term.{weight_of}
use Rattle.nrca_term.specs.View.{term_of}
use Rattle.nrca_subst.specs.Laws.Walking.{with_first_parts, shift_part}
use Rattle.nrca_subst.proofs.shifting.+shift.Given as goal

abbrev pub invariant-shift_parts_in-loop-i : goal.invariant-shift_parts_in-loop-i
invariant-shift_parts_in-loop-i l = term_of l.term ≡ with_first_parts (shift_part l.from l.by) l.i (term_of l.initial.term)

abbrev pub decreases-shift_in : goal.decreases-shift_in
decreases-shift_in l = 3 * weight_of (term_of l.term.now) + 1

abbrev pub decreases-shift_parts_in : goal.decreases-shift_parts_in
decreases-shift_parts_in l = 3 * weight_of (term_of l.term.now)

abbrev pub decreases-shift_under : goal.decreases-shift_under
decreases-shift_under l = 3 * weight_of (term_of l.part.now) + 2
