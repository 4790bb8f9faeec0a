use Rattle.aql_types.specs.Laws.Pushing.{all_made}
use Rattle.aql_infer_steps.specs.View.{sides_of, sketch_types}
use Rattle.aql_infer_steps.proofs.nodes.make_graph.Goals as goal

pub returns : goal.returns
returns c =
    all_made c.in_ok-variables.variables c.in_ok-made.made.items c.in_ok-made.w.graph c.in_ok-w.w.graph c.in_ok-graph.graph (sides_of c.args.positions.now c.args.s.equations.items)
    (sketch_types c.args.positions.now c.args.s.uses.items) c.in_ok-graph.ensures c.in_ok-w.ensures.0 c.in_ok-made.ensures.0
