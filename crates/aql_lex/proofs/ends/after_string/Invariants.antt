use Rattle.std.proofs.Common.{◌≡◌, length}
use Rattle.aql_lex.specs.Lexing.{string_rest, inside}
use Rattle.aql_lex.proofs.ends.after_string.Given as goal

abbrev pub invariant-loop-first : goal.invariant-loop-first
invariant-loop-first l = string_rest inside l.rest ≡ string_rest inside l.bytes

abbrev pub decreases-loop-first : goal.decreases-loop-first
decreases-loop-first l = length l.rest
