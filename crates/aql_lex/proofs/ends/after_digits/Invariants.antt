use Rattle.std.proofs.Common.{◌≡◌, ◌<◌, ◌^◌, length}
use Rattle.aql_syntax.specs.Lexis.{is_digit}
use Rattle.aql_lex.specs.Lexing.{munch_rest}
use Rattle.aql_lex.specs.Texts.{digits_value}
use Rattle.aql_lex.proofs.ends.after_digits.Given as goal

abbrev pub invariant-loop-first : goal.invariant-loop-first
invariant-loop-first l = record {
  fits : l.value < 2 ^ 128;
  value : digits_value l.value l.rest ≡ digits_value l.start l.bytes;
  rest : munch_rest is_digit l.rest ≡ munch_rest is_digit l.bytes;
}

abbrev pub decreases-loop-first : goal.decreases-loop-first
decreases-loop-first l = length l.rest
