use Rattle.nrca_term.specs.View.{term_of}
use Rattle.nrca_encoded.proofs.Coming.{variables-fit, graph-is}
use Rattle.nrca_encoded.proofs.running.graph_of.Goals as goal

pub to_graph-requires-clause-variables : goal.to_graph-requires-clause-variables
to_graph-requires-clause-variables g c = variables-fit c.args.globals.now (term_of c.args.plan.now) c.requires.typed

pub returns-in-Ok-clause-graph : goal.returns-in-Ok-clause-graph
returns-in-Ok-clause-graph g c =
    let e = c.in_ok-term.ensures in
    graph-is c.args.globals.now c.args.budget (term_of c.args.plan.now) (record { term = c.in_ok-term.term; ran = c.in-Ok.ran }) c.requires.typed e.free e.meaning e.turns c.in-Ok.ensures.ran
