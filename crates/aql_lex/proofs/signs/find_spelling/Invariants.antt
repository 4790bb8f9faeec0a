use Rattle.std.proofs.Common.{◌≡◌, length}
use Rattle.aql_lex.specs.Lexing.{first_spelled}
use Rattle.aql_lex.proofs.signs.find_spelling.Given as goal

abbrev pub invariant-loop-first : goal.invariant-loop-first
invariant-loop-first l = first_spelled l.left l.text ≡ first_spelled l.signs l.text

abbrev pub decreases-loop-first : goal.decreases-loop-first
decreases-loop-first l = length l.left
