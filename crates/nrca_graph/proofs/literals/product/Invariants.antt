use Rattle.std.proofs.Common.{◌≡◌, ◌-◌}
use Rattle.nrca_term.specs.Rules.{index_variables}
use Rattle.nrca_term.specs.Term.{Term}
use Rattle.nrca_graph.specs.ArrayFree.{times, product_term}
use Rattle.nrca_graph.specs.Made.{Makes}
use Rattle.nrca_graph.proofs.literals.product.Given as goal

-- the factors so far and those that are left
abbrev pub invariant-loop-j : goal.invariant-loop-j
invariant-loop-j l = (p : Term) × Makes l.made p × (times p (index_variables (l.rank - l.j)) ≡ product_term (index_variables l.rank))
