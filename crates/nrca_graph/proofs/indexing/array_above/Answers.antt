use Rattle.nrca_term.specs.View.{terms_of}
use Rattle.nrca_graph.specs.Laws.Tops.{rank-few}
use Rattle.nrca_graph.proofs.Trees.{dimensions_room}
use Rattle.nrca_graph.proofs.indexing.array_above.Goals as goal

pub bind_all-requires : goal.bind_all-requires
bind_all-requires c = dimensions_room c.args.rank (terms_of c.in_ok-dims.dims) (rank-few c.args.rank c.requires) c.in_ok-dims.ensures
