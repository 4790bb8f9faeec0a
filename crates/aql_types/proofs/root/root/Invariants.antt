use Rattle.std.proofs.Common.{ℕ, List, ◌≡◌, ◌≤◌}
use Rattle.aql_types.specs.Shapes.{Valuation}
use Rattle.aql_types.specs.Forms.{forms}
use Rattle.aql_types.specs.Valuations.{Holds}
use Rattle.aql_types.specs.Steps.{KeepsNodes, LinksDown, bare}
use Rattle.aql_types.proofs.root.root.Given as goal

abbrev pub invariant-loop-up : goal.invariant-loop-up
invariant-loop-up l = record {
  keeps : KeepsNodes l.fn.ns l.ns;
  down : LinksDown (bare l.ns);
  below : l.here ≤ l.start;
  same : (ps : List ℕ) (v : Valuation) → Holds v (forms ps l.ns) → v l.start ≡ v l.here;
}

abbrev pub decreases-loop-up : goal.decreases-loop-up
decreases-loop-up l = l.here
