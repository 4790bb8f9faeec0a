use Rattle.std.proofs.Common.{◌≡◌, length}
use Rattle.aql_lex.specs.Lexing.{sign_from}
use Rattle.aql_lex.proofs.signs.first_at.Given as goal

abbrev pub invariant-loop-first : goal.invariant-loop-first
invariant-loop-first l = sign_from l.left l.bytes ≡ sign_from l.signs l.bytes

abbrev pub decreases-loop-first : goal.decreases-loop-first
decreases-loop-first l = length l.left
