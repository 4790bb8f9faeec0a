use Rattle.aql_value.specs.Meaning.{datum}
use Rattle.nrca_graph.proofs.ValueSteps.{ordered_made}
use Rattle.nrca_graph.proofs.values.encode.Goals as goal

pub returns-clause-order : goal.returns-clause-order
returns-clause-order c = ordered_made (datum c.args.v.now) c.encode_value.result c.encode_value.ensures
