use Rattle.std.proofs.Common.{ℕ, ◌<◌}
use Rattle.std.specs.Prelude.{IsSome}
use Rattle.aql_types.specs.Forms.{forms}
use Rattle.aql_types.specs.Extents.{extent, IsMemo}
use Rattle.aql_types.proofs.measure.are_within.Given as goal

abbrev pub invariant-loop-i : goal.invariant-loop-i
invariant-loop-i l = record {
  known : (k : ℕ) → k < l.i → IsSome (extent l.most l.limit (forms l.ps l.ns) k);
  memo : IsMemo l.most l.memo (forms l.ps l.ns);
}
