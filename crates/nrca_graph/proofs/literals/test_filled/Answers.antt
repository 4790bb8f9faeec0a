use Rattle.std.proofs.Common.{subst}
use Rattle.nrca_term.specs.Nodes.{number, truth_term}
use Rattle.nrca_term.specs.Rules.{index_variables}
use Rattle.nrca_term.specs.Laws.Equations.{term_of-Nat}
use Rattle.nrca_graph.specs.ArrayFree.{equal_term, product_term, where_zero}
use Rattle.nrca_graph.specs.Made.{Makes}
use Rattle.nrca_graph.proofs.Trees.{no_cells}
use Rattle.nrca_graph.proofs.literals.test_filled.Goals as goal

pub returns : goal.returns
returns c =
    let ds = index_variables c.args.rank in
    subst (λ b. Makes c.first_zero.result (where_zero ds (truth_term b) (equal_term (product_term ds) (number c.args.n)))) (no_cells c.args.n)
    (c.first_zero.ensures _ (c.compare-full.ensures _ _ c.product.ensures (term_of-Nat c.args.n)))
