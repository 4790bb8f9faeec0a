use Rattle.std.proofs.Common.{refl, sym, subst}
use Rattle.aql_session.specs.Executions.{IsExecutionWithGraph}
use Rattle.aql_session.proofs.graphs.with_graph.Goals as goal

pub returns-in-Ok-clause-ran : goal.returns-in-Ok-clause-ran
returns-in-Ok-clause-ran g c =
    subst (IsExecutionWithGraph c.args.at.now c.args.globals.now c.args.evaluated) (sym c.add_graph.ensures) (refl, c.in-Ok.ensures.graph)
