use Rattle.std.proofs.Common.{List, length, ◌≤◌}
use Rattle.aql_syntax.specs.Lexis.{Lexeme, Covers}
use Rattle.aql_lex.proofs.lexer.token_list.Given as goal

abbrev pub invariant-loop-rest : goal.invariant-loop-rest
invariant-loop-rest l = record {
  covers : (ls : List Lexeme) × Covers l.script l.found.items ls l.rest;
  within : length l.rest ≤ length l.script;
}

abbrev pub decreases-loop-rest : goal.decreases-loop-rest
decreases-loop-rest l = length l.rest
