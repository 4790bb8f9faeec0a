use Rattle.std.proofs.Common.{◌≡◌, ◌≤◌, length}
use Rattle.aql_syntax.specs.Lexis.{is_name_byte}
use Rattle.aql_lex.specs.Lexing.{munch_rest}
use Rattle.aql_lex.proofs.ends.after_name.Given as goal

abbrev pub invariant-loop-first : goal.invariant-loop-first
invariant-loop-first l = record {
  rest : munch_rest is_name_byte l.rest ≡ munch_rest is_name_byte l.bytes;
  within : length l.rest ≤ length l.bytes;
}

abbrev pub decreases-loop-first : goal.decreases-loop-first
decreases-loop-first l = length l.rest
