use Rattle.std.proofs.Common.{[], Some, sym, subst}
use Rattle.nrca_encoded.specs.Graphs.{IsGraph}
use Rattle.nrca_term.specs.Meaning.{cden}
use Rattle.nrca_term.specs.View.{term_of}
use Rattle.aql_session.specs.Step.{IsGraphBy}
use Rattle.aql_session.proofs.Planning.{in-box}
use Rattle.aql_session.proofs.graphs.graph_by.Goals as goal

pub returns-in-Ok-clause-graph : goal.returns-in-Ok-clause-graph
returns-in-Ok-clause-graph g c =
    let V = c.args.globals.now in
    let t = term_of c.args.plan.now in
    let budget = c.args.options.now.budget in
    subst (λ b. IsGraphBy b V budget t (cden V [] t) (Some c.in-Ok.graph)) (sym c.if-options.true)
    (in-box c.graph_of-found.result c.in-Ok.graph (IsGraph V budget t (cden V [] t)) c.in-Ok.ensures c.graph_of-found.ensures.graph)
