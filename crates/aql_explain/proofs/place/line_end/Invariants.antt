use Rattle.std.proofs.Common.{◌≤◌, ◌+◌, length}
use Rattle.aql_explain.proofs.place.line_end.Given as goal

abbrev pub invariant-loop-first : goal.invariant-loop-first
invariant-loop-first l = l.from + length l.rest ≤ length l.script

abbrev pub decreases-loop-first : goal.decreases-loop-first
decreases-loop-first l = length l.rest
