use Rattle.std.proofs.Common.{◌≡◌}
use Rattle.aql_value.specs.Lists.{below}
use Rattle.nrca_sets.proofs.set.numbers_below.Given as goal

-- the numbers so far
abbrev pub invariant-loop-i : goal.invariant-loop-i
invariant-loop-i l = l.numbers.items ≡ below l.i
