use Rattle.std.proofs.Common.{◌≡◌, ◌+◌}
use Rattle.aql_syntax.specs.Size.{binary_digits}
use Rattle.aql_syntax.proofs.counts.digits.Given as goal

abbrev pub invariant-loop-rest : goal.invariant-loop-rest
invariant-loop-rest l = l.found + binary_digits l.rest ≡ binary_digits l.n

abbrev pub decreases-loop-rest : goal.decreases-loop-rest
decreases-loop-rest l = l.rest
