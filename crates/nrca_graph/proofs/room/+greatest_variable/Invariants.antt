use Rattle.std.proofs.Common.{◌≡◌, ◌*◌, ◌+◌}
use Rattle.nrca_term.specs.Term.{weight_of, parts_of}
use Rattle.nrca_term.specs.View.{term_of}
use Rattle.nrca_graph.proofs.Tops.{first_top}
use Rattle.nrca_graph.proofs.room.+greatest_variable.Given as goal

abbrev pub invariant-greatest_in_parts-loop-i : goal.invariant-greatest_in_parts-loop-i
invariant-greatest_in_parts-loop-i l = l.greatest ≡ first_top l.i (parts_of (term_of l.term))

abbrev pub decreases-greatest_variable : goal.decreases-greatest_variable
decreases-greatest_variable l = 2 * weight_of (term_of l.term.now) + 1

abbrev pub decreases-greatest_in_parts : goal.decreases-greatest_in_parts
decreases-greatest_in_parts l = 2 * weight_of (term_of l.term.now)
