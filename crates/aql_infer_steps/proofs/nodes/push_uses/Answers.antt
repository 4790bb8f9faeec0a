use Rattle.std.proofs.Common.{subst, ap}
use Rattle.aql_types.specs.Pushed.{PushesUses}
use Rattle.aql_types.specs.Laws.Pushing.{pushed_uses}
use Rattle.aql_infer_steps.specs.View.{sketch_types}
use Rattle.aql_infer_steps.proofs.nodes.push_uses.Goals as goal

pub returns : goal.returns
returns c = (
  subst (PushesUses c.in_ok-made.made.graph c.args.w.graph) (ap (sketch_types c.args.positions.now) c.deref.ensures.value)
      (pushed_uses c.in_ok-made.field-0-0.items c.in_ok-made.made.graph c.args.w.graph (sketch_types c.args.positions.now c.deref.result.now) c.in_ok-made.ensures.0),
  c.in_ok-made.ensures.1,
)
