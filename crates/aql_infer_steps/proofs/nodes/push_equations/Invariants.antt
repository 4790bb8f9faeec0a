use Rattle.aql_types.specs.Pushed.{PushesEquations}
use Rattle.aql_infer_steps.specs.View.{sides_of}
use Rattle.aql_infer_steps.specs.Nodes.{IsUnderWay}
use Rattle.aql_infer_steps.proofs.nodes.push_equations.Given as goal

abbrev pub invariant-loop-e : goal.invariant-loop-e
invariant-loop-e l = record {
  under : IsUnderWay l.positions l.w;
  pushes : PushesEquations l.made.items l.w.graph l.fn.w.graph (sides_of l.positions l.yielded);
}
