use Rattle.aql_infer_steps.specs.View.{sketch_type}
use Rattle.aql_types.specs.Laws.Pushing.{sides_pushed}
use Rattle.aql_infer_steps.proofs.nodes.push_equation.Goals as goal

pub returns : goal.returns
returns c = (
  sides_pushed c.in_ok-left.left c.in_ok-right.right c.in_ok-right.w.graph c.in_ok-left.w.graph c.args.w.graph (sketch_type c.args.positions.now c.args.e.left)
      (sketch_type c.args.positions.now c.args.e.right) c.in_ok-left.ensures.0 c.in_ok-right.ensures.0,
  c.in_ok-right.ensures.1,
)
