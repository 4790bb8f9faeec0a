use Rattle.std.proofs.Common.{◌≡◌, ◌+◌, ◌*◌, ℕ, max}
use Rattle.nrca_term.specs.Term.{weight_of}
use Rattle.nrca_term.specs.Subst.{shift_term}
use Rattle.nrca_term.specs.View.{term_of}
use Rattle.nrca_subst.specs.Depth.{IsDepth}
use Rattle.nrca_subst.specs.Laws.Walking.{with_first_parts}
use Rattle.nrca_subst.proofs.SubstWalk.{subst_part}
use Rattle.nrca_subst.proofs.substituting.+subst.Given as goal

abbrev pub invariant-subst_parts_in-loop-i : goal.invariant-subst_parts_in-loop-i
invariant-subst_parts_in-loop-i l = (n : ℕ) → IsDepth l.depth n → term_of l.term ≡ with_first_parts (subst_part (l.at + n) (shift_term 0 n (term_of l.with))) l.i (term_of l.initial.term)

abbrev pub decreases-subst_in : goal.decreases-subst_in
decreases-subst_in l = 4 * weight_of (term_of l.term.now) + 2

abbrev pub decreases-subst_other : goal.decreases-subst_other
decreases-subst_other l = 4 * weight_of (term_of l.term.now) + 1

abbrev pub decreases-subst_two : goal.decreases-subst_two
decreases-subst_two l = 4 * max (weight_of (term_of l.a.now.value)) (weight_of (term_of l.b.now.value)) + 3

abbrev pub decreases-subst_parts_in : goal.decreases-subst_parts_in
decreases-subst_parts_in l = 4 * weight_of (term_of l.term.now)
