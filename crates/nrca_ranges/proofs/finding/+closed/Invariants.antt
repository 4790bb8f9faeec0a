use Rattle.std.proofs.Common.{◌≡◌, ℕ, ◌+◌, ◌*◌, ◌<◌, Some}
use Rattle.nrca_term.specs.Term.{Term, Closed, child_of, binders_of, parts_of, weight_of}
use Rattle.nrca_term.specs.View.{term_of}
use Rattle.nrca_ranges.proofs.finding.+closed.Given as goal

abbrev pub invariant-are_closed-loop-i : goal.invariant-are_closed-loop-i
invariant-are_closed-loop-i l = (j : ℕ) (u : Term) → j < l.i → child_of (parts_of (term_of l.term)) j ≡ Some u → Closed (l.depth + binders_of (parts_of (term_of l.term)) j) u

abbrev pub decreases-is_closed : goal.decreases-is_closed
decreases-is_closed l = 2 * weight_of (term_of l.term.now) + 1

abbrev pub decreases-are_closed : goal.decreases-are_closed
decreases-are_closed l = 2 * weight_of (term_of l.term.now)
