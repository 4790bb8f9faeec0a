use Rattle.std.proofs.Common.{◌≡◌, ◌*◌, ◌+◌, ◌-◌, ◌^◌, min, ℕ}
use Rattle.nrca_term.specs.Term.{weight_of, parts_of}
use Rattle.nrca_term.specs.View.{term_of}
use Rattle.nrca_subst.specs.Depth.{IsDepth}
use Rattle.nrca_subst.proofs.Counts.{first_uses}
use Rattle.nrca_subst.proofs.counting.+uses.Given as goal

abbrev pub invariant-uses_in_parts-loop-i : goal.invariant-uses_in_parts-loop-i
invariant-uses_in_parts-loop-i l = (n : ℕ) → IsDepth l.at n → l.total ≡ min (first_uses n l.i (parts_of (term_of l.term))) (2 ^ 64 - 1)

abbrev pub decreases-uses_under : goal.decreases-uses_under
decreases-uses_under l = 2 * weight_of (term_of l.term.now) + 1

abbrev pub decreases-uses_in_parts : goal.decreases-uses_in_parts
decreases-uses_in_parts l = 2 * weight_of (term_of l.term.now)
