use Rattle.std.proofs.Common.{◌≡◌, ◌+◌, ◌<◌, ◌^◌, ◌++◌, length, map}
use Rattle.std.specs.Vec.Iter.{into_iter_items}
use Rattle.nrca_term.specs.Rules.{index_variables}
use Rattle.nrca_term.specs.Subst.{shift_term, list_top}
use Rattle.nrca_term.specs.View.{term_of, terms_of}
use Rattle.nrca_graph.specs.ArrayFree.{cell_pairs}
use Rattle.nrca_graph.specs.Made.{all_pairs}
use Rattle.nrca_graph.proofs.literals.pairs.Given as goal

-- the pairs so far and those of the cells that are left, which may be shifted
abbrev pub invariant-loop-cell : goal.invariant-loop-cell
invariant-loop-cell l =
    (map term_of l.made.items ++ cell_pairs (length l.made.items) (index_variables l.rank) (map (shift_term 0 l.rank) (map term_of (into_iter_items l.left))) ≡ all_pairs l.rank (terms_of l.fn.cells))
    × (list_top (map term_of (into_iter_items l.left)) + l.rank < 2 ^ 64)

abbrev pub decreases-loop-cell : goal.decreases-loop-cell
decreases-loop-cell l = length (into_iter_items l.left)
