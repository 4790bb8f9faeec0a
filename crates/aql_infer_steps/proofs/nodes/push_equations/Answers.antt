use Rattle.aql_infer_steps.proofs.Noting.{next_sides}
use Rattle.aql_infer_steps.proofs.nodes.push_equations.Goals as goal

pub loop-e-preserved : goal.loop-e-preserved
loop-e-preserved c = record {
  under = c.in_ok-one.ensures.1;
  pushes = next_sides c.args.positions.now c.loop-e.made.items c.push.new.self.items c.in_ok-one.one c.in_ok-one.more.graph c.loop-e.w.graph c.args.w.graph c.loop-e.yielded c.in-Some.e
      c.in_ok-push.ensures.items c.loop-e.invariant.pushes c.in_ok-one.ensures.0;
}
