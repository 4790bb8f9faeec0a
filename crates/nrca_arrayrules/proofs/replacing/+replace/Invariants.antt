use Rattle.std.proofs.Common.{◌≡◌, ◌*◌, ◌+◌}
use Rattle.nrca_term.specs.Term.{weight_of}
use Rattle.nrca_term.specs.View.{term_of}
use Rattle.nrca_subst.specs.Laws.Walking.{with_first_parts}
use Rattle.nrca_arrayrules.proofs.ReplaceWalk.{replace_part}
use Rattle.nrca_arrayrules.proofs.replacing.+replace.Given as goal

abbrev pub invariant-replace_in_parts-loop-i : goal.invariant-replace_in_parts-loop-i
invariant-replace_in_parts-loop-i l = term_of l.term ≡ with_first_parts (replace_part l.depth (term_of l.size)) l.i (term_of l.initial.term)

abbrev pub decreases-replace_in : goal.decreases-replace_in
decreases-replace_in l = 2 * weight_of (term_of l.term.now) + 1

abbrev pub decreases-replace_in_parts : goal.decreases-replace_in_parts
decreases-replace_in_parts l = 2 * weight_of (term_of l.term.now)
