use Rattle.nrca_graph.specs.Laws.NoArrays.{array_free-has_none}
use Rattle.nrca_graph.proofs.laws.forms.Goals as goal

pub returns : goal.returns
returns c = array_free-has_none
