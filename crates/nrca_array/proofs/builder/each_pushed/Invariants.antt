use Rattle.std.proofs.Common.{◌≡◌, ◌++◌, map, take}
use Rattle.aql_value.specs.Datum.{natural}
use Rattle.nrca_array.specs.Stored.{store_cells}
use Rattle.nrca_array.proofs.builder.each_pushed.Given as goal

abbrev pub invariant-loop-n : goal.invariant-loop-n
invariant-loop-n l = l.all ≡ store_cells l.fn.cells ++ map natural (take l.n-index l.numbers)
