use Rattle.std.proofs.Common.{take}
use Rattle.aql_types.specs.Pushed.{PushesAll}
use Rattle.aql_infer_steps.specs.View.{sketch_types}
use Rattle.aql_infer_steps.specs.Nodes.{IsUnderWay}
use Rattle.aql_infer_steps.proofs.nodes.+push.Given as goal

abbrev pub invariant-push_sketches-loop-t : goal.invariant-push_sketches-loop-t
invariant-push_sketches-loop-t l = record {
  under : IsUnderWay l.positions l.w;
  pushes : PushesAll l.made.items l.w.graph l.fn.w.graph (sketch_types l.positions (take l.t-index l.ts));
}
