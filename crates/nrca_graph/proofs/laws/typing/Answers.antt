use Rattle.std.proofs.Common.{map}
use Rattle.nrca_term.specs.Typing.{instances}
use Rattle.nrca_graph.specs.Encoding.{encoding_type}
use Rattle.nrca_graph.specs.Laws.ArrayFreeTypes.{array_free-typed, instances-kept}
use Rattle.nrca_graph.proofs.laws.typing.Goals as goal

pub returns : goal.returns
returns c Ts env t T h = array_free-typed (instances Ts) (instances (map encoding_type Ts)) (instances-kept Ts) t env T h
