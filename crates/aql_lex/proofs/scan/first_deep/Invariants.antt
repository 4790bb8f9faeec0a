use Rattle.std.proofs.Common.{◌≡◌, ◌≤◌, length, sum}
use Rattle.aql_syntax.specs.Scan.{no_counters}
use Rattle.aql_lex.specs.Scanning.{counters_of, deep_from}
use Rattle.aql_lex.proofs.scan.first_deep.Given as goal

abbrev pub invariant-loop-token : goal.invariant-loop-token
invariant-loop-token l = record {
  same : deep_from l.script (counters_of l.counters) l.left ≡ deep_from l.script no_counters l.tokens;
  adds : sum (counters_of l.counters) ≡ l.counters.total;
  low : l.counters.total ≤ 400;
}

abbrev pub decreases-loop-token : goal.decreases-loop-token
decreases-loop-token l = length l.left
