use Rattle.nrca_term.specs.Nodes.{truth_term}
use Rattle.nrca_term.specs.Rules.{index_variables}
use Rattle.nrca_graph.specs.ArrayFree.{where_zero}
use Rattle.nrca_graph.specs.Made.{MakesOf}
use Rattle.nrca_graph.proofs.literals.first_zero.Given as goal

abbrev pub invariant-loop-i : goal.invariant-loop-i
invariant-loop-i l = MakesOf (where_zero (index_variables l.i) (truth_term l.empty)) l.fn.full l.inner
