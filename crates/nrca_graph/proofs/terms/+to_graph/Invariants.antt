use Rattle.std.proofs.Common.{◌≡◌, ◌+◌, ◌*◌}
use Rattle.nrca_term.specs.Term.{weight_of}
use Rattle.nrca_term.specs.View.{term_of}
use Rattle.nrca_subst.specs.Laws.Walking.{with_first_parts}
use Rattle.nrca_graph.proofs.Translating.{free_part}
use Rattle.nrca_graph.proofs.terms.+to_graph.Given as goal

abbrev pub invariant-translate_parts-loop-i : goal.invariant-translate_parts-loop-i
invariant-translate_parts-loop-i l = term_of l.term ≡ with_first_parts free_part l.i (term_of l.initial.term)

abbrev pub decreases-translate : goal.decreases-translate
decreases-translate l = 2 * weight_of (term_of l.term.now) + 1

abbrev pub decreases-translate_parts : goal.decreases-translate_parts
decreases-translate_parts l = 2 * weight_of (term_of l.term.now)
