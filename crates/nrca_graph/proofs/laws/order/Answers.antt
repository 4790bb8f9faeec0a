use Rattle.nrca_graph.specs.Laws.EncodingOrder.{encoding-order}
use Rattle.nrca_graph.proofs.laws.order.Goals as goal

pub returns : goal.returns
returns c = encoding-order
