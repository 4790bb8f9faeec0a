use Rattle.std.proofs.Common.{◌≡◌, ◌<◌, ◌^◌, take}
use Rattle.aql_value.specs.Lists.{Every}
use Rattle.nrca_term.proofs.trace.Path.from_numbers.Given as goal

abbrev pub invariant-loop-i : goal.invariant-loop-i
invariant-loop-i l = l.path.items ≡ take l.i-index l.numbers
