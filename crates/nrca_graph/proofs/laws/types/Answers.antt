use Rattle.nrca_graph.specs.Laws.EncodedTypes.{encoding-typed, encoding-is_type, encoding-apply}
use Rattle.nrca_graph.proofs.laws.types.Goals as goal

pub returns-clause-values : goal.returns-clause-values
returns-clause-values c = encoding-typed

pub returns-clause-types : goal.returns-clause-types
returns-clause-types c = encoding-is_type

pub returns-clause-instances : goal.returns-clause-instances
returns-clause-instances c = encoding-apply
