use Rattle.std.proofs.Common.{◌≡◌, ◌++◌, map}
use Rattle.nrca_term.specs.View.{term_of}
use Rattle.aql_desugar_spec.specs.Start.{index_terms}
use Rattle.aql_desugar.proofs.arrays.cell.Given as goal

abbrev pub invariant-loop-left : goal.invariant-loop-left
invariant-loop-left l = map term_of l.at.items ++ index_terms l.left l.added ≡ index_terms l.rank l.added

abbrev pub decreases-loop-left : goal.decreases-loop-left
decreases-loop-left l = l.left
