use Rattle.std.proofs.Common.{◌≡◌, length}
use Rattle.aql_syntax.specs.Lexis.{behind}
use Rattle.aql_syntax.proofs.token.strip_front.Given as goal

abbrev pub invariant-loop-wanted : goal.invariant-loop-wanted
invariant-loop-wanted l = behind l.left l.rest ≡ behind l.prefix l.bytes

abbrev pub decreases-loop-wanted : goal.decreases-loop-wanted
decreases-loop-wanted l = length l.left
