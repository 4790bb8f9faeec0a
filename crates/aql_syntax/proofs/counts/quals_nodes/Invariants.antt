use Rattle.std.proofs.Common.{◌≡◌, ◌+◌, ◌-◌, ◌^◌, ◌<◌, drop, min}
use Rattle.aql_syntax.specs.Size.{quals_patterns}
use Rattle.aql_syntax.specs.View.{quals_of}
use Rattle.aql_syntax.proofs.counts.quals_nodes.Given as goal

abbrev pub invariant-loop-q : goal.invariant-loop-q
invariant-loop-q l = record {
  fits : l.total < 2 ^ 64;
  sum : min (l.total + quals_patterns (quals_of (drop l.q-index l.quals))) (2 ^ 64 - 1) ≡ min (quals_patterns (quals_of l.quals)) (2 ^ 64 - 1);
}
