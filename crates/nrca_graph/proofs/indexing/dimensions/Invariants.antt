use Rattle.std.proofs.Common.{◌≡◌, suc, map}
use Rattle.aql_value.specs.Lists.{below}
use Rattle.nrca_term.specs.View.{term_of}
use Rattle.nrca_graph.specs.ArrayFree.{dimension_above}
use Rattle.nrca_graph.proofs.indexing.dimensions.Given as goal

abbrev pub invariant-loop-j : goal.invariant-loop-j
invariant-loop-j l = map term_of l.dims.items ≡ map (λ j. dimension_above l.rank (suc j)) (below l.j)
