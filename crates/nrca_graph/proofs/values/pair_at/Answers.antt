use Rattle.nrca_graph.proofs.ValueSteps.{pair_made}
use Rattle.nrca_graph.proofs.values.pair_at.Goals as goal

pub returns : goal.returns
returns c = pair_made _ _ _ c.pair_value.result c.index_value.result _ c.set_index.ensures c.index_value.ensures c.pair_value.ensures
