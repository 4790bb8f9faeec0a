use Rattle.std.proofs.Common.{◌≡◌, map}
use Rattle.aql_value.specs.Meaning.{datum}
use Rattle.nrca_array.proofs.flat.Flat.from_cells.Given as goal

abbrev pub invariant-loop-value : goal.invariant-loop-value
invariant-loop-value l = l.packed ≡ map datum l.yielded
