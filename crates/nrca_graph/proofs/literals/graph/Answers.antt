use Rattle.std.proofs.Common.{length, subst, ap, ◌∙◌}
use Rattle.std.proofs.lemmas.List.{length-map}
use Rattle.nrca_term.specs.Rules.{index_variables}
use Rattle.nrca_term.specs.Subst.{shift_term}
use Rattle.nrca_term.specs.View.{terms_of}
use Rattle.nrca_graph.specs.ArrayFree.{union_tree}
use Rattle.nrca_graph.specs.Made.{Makes, all_pairs}
use Rattle.nrca_graph.proofs.Cells.{pairs_count}
use Rattle.nrca_graph.proofs.literals.graph.Goals as goal

pub returns : goal.returns
returns c =
    let cs = terms_of c.args.cells in
    subst (Makes c.unite.result)
    (ap (λ ts. union_tree (length ts) ts) c.in_ok-pairs.ensures ∙ ap (λ n. union_tree n (all_pairs c.args.rank cs)) (pairs_count 0 (index_variables c.args.rank) _ ∙ length-map cs (shift_term 0 c.args.rank)))
    c.unite.ensures
