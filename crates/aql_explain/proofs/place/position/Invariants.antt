use Rattle.std.proofs.Common.{◌≡◌, length}
use Rattle.aql_explain.specs.Place.{line_behind, column_behind}
use Rattle.aql_explain.proofs.place.position.Given as goal

abbrev pub invariant-loop-first : goal.invariant-loop-first
invariant-loop-first l = record {
  line : line_behind l.line l.rest ≡ line_behind 1 l.front;
  column : column_behind l.column l.rest ≡ column_behind 1 l.front;
}

abbrev pub decreases-loop-first : goal.decreases-loop-first
decreases-loop-first l = length l.rest
