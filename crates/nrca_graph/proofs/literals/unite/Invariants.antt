use Rattle.std.proofs.Common.{length}
use Rattle.nrca_term.specs.View.{terms_of}
use Rattle.nrca_graph.specs.ArrayFree.{union_tree}
use Rattle.nrca_graph.proofs.Cells.{RoundsLeft}
use Rattle.nrca_graph.proofs.literals.unite.Given as goal

abbrev pub invariant-loop-alloc : goal.invariant-loop-alloc
invariant-loop-alloc l = RoundsLeft (terms_of l.sets) (union_tree (length (terms_of l.fn.sets)) (terms_of l.fn.sets))

abbrev pub decreases-loop-alloc : goal.decreases-loop-alloc
decreases-loop-alloc l = length l.sets.0.items
