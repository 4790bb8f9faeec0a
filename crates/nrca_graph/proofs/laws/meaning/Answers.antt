use Rattle.nrca_term.specs.Typing.{instances}
use Rattle.nrca_graph.specs.Laws.Means.{array_free-means}
use Rattle.nrca_graph.proofs.laws.meaning.Goals as goal

pub returns : goal.returns
returns c Ts V o t w env vals T h k = array_free-means (instances Ts) V o t w env vals T h k
