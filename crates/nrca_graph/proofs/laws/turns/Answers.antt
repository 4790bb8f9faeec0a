use Rattle.nrca_graph.proofs.Keeping.{turns_free}
use Rattle.nrca_graph.proofs.laws.turns.Goals as goal

pub returns : goal.returns
returns c = turns_free
