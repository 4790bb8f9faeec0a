use Rattle.std.proofs.Common.{◌≡◌, ◌+◌, ◌-◌, ◌^◌, ◌<◌, drop, min}
use Rattle.aql_syntax.specs.Size.{pats_nodes}
use Rattle.aql_syntax.specs.View.{pats_of}
use Rattle.aql_syntax.proofs.+pattern_nodes.Given as goal

abbrev pub invariant-sizes::patterns_nodes-loop-p : goal.invariant-sizes::patterns_nodes-loop-p
invariant-sizes::patterns_nodes-loop-p l = record {
  fits : l.total < 2 ^ 64;
  sum : min (l.total + pats_nodes (pats_of (drop l.p-index l.ps))) (2 ^ 64 - 1) ≡ min (pats_nodes (pats_of l.ps)) (2 ^ 64 - 1);
}
