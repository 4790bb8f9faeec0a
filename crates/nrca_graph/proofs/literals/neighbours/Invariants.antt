use Rattle.std.proofs.Common.{◌≡◌, ◌++◌, length, map}
use Rattle.std.specs.Vec.Iter.{into_iter_items}
use Rattle.nrca_term.specs.View.{term_of, terms_of}
use Rattle.nrca_graph.specs.ArrayFree.{united_neighbours}
use Rattle.nrca_graph.proofs.literals.neighbours.Given as goal

-- the unions so far and those of the sets that are left
abbrev pub invariant-loop-set : goal.invariant-loop-set
invariant-loop-set l = map term_of l.made.items ++ united_neighbours (map term_of (into_iter_items l.left)) ≡ united_neighbours (terms_of l.fn.sets)

abbrev pub decreases-loop-set : goal.decreases-loop-set
decreases-loop-set l = length (into_iter_items l.left)
