use Rattle.std.proofs.Common.{◌≡◌, ◌-◌, ◌++◌, map}
use Rattle.nrca_term.specs.Rules.{index_variables}
use Rattle.nrca_term.specs.View.{term_of}
use Rattle.nrca_graph.proofs.tables.variable_list.Given as goal

abbrev pub invariant-loop-i : goal.invariant-loop-i
invariant-loop-i l = map term_of l.items.items ++ index_variables (l.rank - l.i) ≡ index_variables l.rank
