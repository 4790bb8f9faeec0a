use Rattle.std.proofs.Common.{drop}
use Rattle.aql_types.specs.Valuations.{AreIn}
use Rattle.aql_types.proofs.inside.are_nodes.Given as goal

abbrev pub invariant-loop-e : goal.invariant-loop-e
invariant-loop-e l = record {
  from : AreIn l.n (drop l.e-index l.work) → AreIn l.n l.work;
  to : AreIn l.n l.work → AreIn l.n (drop l.e-index l.work);
}
