use Rattle.std.proofs.Common.{◌≡◌, map, take, Some}
use Rattle.aql_value.specs.Datum.{natural}
use Rattle.nrca_loops.specs.Runs.{sum_value}
use Rattle.nrca_numbers.proofs.added.sum_all.Given as goal

abbrev pub invariant-loop-number : goal.invariant-loop-number
invariant-loop-number l = l.sum ≡ sum_value (Some (map natural (take l.number-index l.numbers)))
