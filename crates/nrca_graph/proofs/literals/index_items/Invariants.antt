use Rattle.std.proofs.Common.{◌≡◌, ◌-◌, ◌++◌, map}
use Rattle.nrca_term.specs.Rules.{index_variables}
use Rattle.nrca_term.specs.View.{term_of}
use Rattle.nrca_graph.specs.ArrayFree.{further_numbers, index_of_cell}
use Rattle.nrca_graph.proofs.literals.index_items.Given as goal

-- the numbers so far and those that are left
abbrev pub invariant-loop-i : goal.invariant-loop-i
invariant-loop-i l = map term_of l.items.items ++ further_numbers l.number (index_variables (l.rank - l.i)) ≡ index_of_cell l.number (index_variables l.rank)
