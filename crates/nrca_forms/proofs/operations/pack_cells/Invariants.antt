use Rattle.std.proofs.Common.{◌≡◌, map}
use Rattle.nrca_array.specs.Held.{held_datum}
use Rattle.nrca_forms.proofs.operations.pack_cells.Given as goal

abbrev pub invariant-loop-cell : goal.invariant-loop-cell
invariant-loop-cell l = l.packed ≡ map held_datum l.yielded
