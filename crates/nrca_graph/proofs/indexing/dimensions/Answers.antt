use Rattle.std.proofs.Common.{◌∙◌, ap, map}
use Rattle.std.proofs.lemmas.List.{map-append}
use Rattle.nrca_term.specs.View.{term_of}
use Rattle.nrca_graph.proofs.Trees.{dimensions_next}
use Rattle.nrca_graph.proofs.indexing.dimensions.Goals as goal

pub loop-j-preserved : goal.loop-j-preserved
loop-j-preserved c =
    ap (map term_of) c.in_ok-push.ensures.items ∙ map-append term_of _ _
    ∙ dimensions_next c.args.rank c.loop-j.j _ (term_of c.in_ok-above.above) c.loop-j.invariant c.in_ok-above.ensures
