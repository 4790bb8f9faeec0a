use Rattle.std.proofs.Common.{◌≡◌, map}
use Rattle.std.specs.List.{slice_range}
use Rattle.aql_value.specs.Meaning.{datum}
use Rattle.nrca_array.specs.Stored.{kept_cells}
use Rattle.nrca_array.proofs.flat.Flat.window.Given as goal

abbrev pub invariant-loop-i : goal.invariant-loop-i
invariant-loop-i l = map datum l.items.items ≡ slice_range (kept_cells l.self-inside.cells) l.from l.i
