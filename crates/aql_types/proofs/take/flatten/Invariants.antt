use Rattle.aql_types.specs.Steps.{KeepsNodes, LinksDown, IsFlatBelow, bare}
use Rattle.aql_types.proofs.take.flatten.Given as goal

abbrev pub invariant-loop-i : goal.invariant-loop-i
invariant-loop-i l = record {
  keeps : KeepsNodes l.fn.ns l.ns;
  down : LinksDown (bare l.ns);
  flat : IsFlatBelow l.i (bare l.ns);
}
