use Rattle.std.proofs.Common.{◌≡◌, ◌++◌, map, take}
use Rattle.aql_value.specs.Datum.{natural}
use Rattle.nrca_array.specs.Runs.{run_numbers}
use Rattle.nrca_array.specs.Stored.{store_cells}
use Rattle.nrca_array.proofs.builder.each_of_run.Given as goal

abbrev pub invariant-loop-k : goal.invariant-loop-k
invariant-loop-k l = l.all ≡ store_cells l.fn.cells ++ map natural (take l.k (run_numbers l.run))
