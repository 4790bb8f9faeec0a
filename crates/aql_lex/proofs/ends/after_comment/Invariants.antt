use Rattle.std.proofs.Common.{◌≡◌, length, false}
use Rattle.aql_lex.specs.Lexing.{comment_rest}
use Rattle.aql_lex.proofs.ends.after_comment.Given as goal

abbrev pub invariant-loop-first : goal.invariant-loop-first
invariant-loop-first l = comment_rest l.star l.rest ≡ comment_rest false l.bytes

abbrev pub decreases-loop-first : goal.decreases-loop-first
decreases-loop-first l = length l.rest
