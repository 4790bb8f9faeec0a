use Rattle.std.proofs.Common.{◌≡◌, ◌*◌, ◌+◌, ◌-◌, ◌^◌, min, ℕ}
use Rattle.nrca_term.specs.Term.{weight_of, parts_of, form_of}
use Rattle.nrca_term.specs.View.{term_of}
use Rattle.nrca_subst.specs.Depth.{IsDepth}
use Rattle.nrca_subst.proofs.StrictCounts.{first_strict}
use Rattle.nrca_subst.proofs.strictness.+uses_strictly.Given as goal

abbrev pub invariant-strict_in_parts-loop-i : goal.invariant-strict_in_parts-loop-i
invariant-strict_in_parts-loop-i l = (n : ℕ) → IsDepth l.at n → l.total ≡ min (first_strict n (form_of (term_of l.term)) 0 l.i (parts_of (term_of l.term))) (2 ^ 64 - 1)

abbrev pub decreases-strict_under : goal.decreases-strict_under
decreases-strict_under l = 4 * weight_of (term_of l.term.now) + 2

abbrev pub decreases-strict_in_parts : goal.decreases-strict_in_parts
decreases-strict_in_parts l = 4 * weight_of (term_of l.term.now) + 1

abbrev pub decreases-strict_in_part : goal.decreases-strict_in_part
decreases-strict_in_part l = 4 * weight_of (term_of l.term.now)
