use Rattle.std.proofs.Common.{◌≡◌, ◌+◌, ◌-◌, ◌^◌, ◌<◌, drop, min}
use Rattle.aql_syntax.specs.Size.{defs_patterns}
use Rattle.aql_syntax.specs.View.{defs_in}
use Rattle.aql_syntax.proofs.counts.lets_nodes.Given as goal

abbrev pub invariant-loop-b : goal.invariant-loop-b
invariant-loop-b l = record {
  fits : l.total < 2 ^ 64;
  sum : min (l.total + defs_patterns (defs_in (drop l.b-index l.binds))) (2 ^ 64 - 1) ≡ min (defs_patterns (defs_in l.binds)) (2 ^ 64 - 1);
}
