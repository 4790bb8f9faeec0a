use Rattle.std.proofs.Common.{◌≡◌, ◌≤◌, length, map, take, Some}
use Rattle.std.specs.List.{slice_range}
use Rattle.aql_value.specs.Datum.{natural}
use Rattle.aql_value.specs.Partial.{each, total}
use Rattle.nrca_term.specs.Meaning.{cden}
use Rattle.nrca_term.specs.Turns.{settle}
use Rattle.nrca_term.specs.View.{terms_of}
use Rattle.nrca_loops.specs.Values.{values}
use Rattle.nrca_numbers.proofs.single.+quick.Given as goal

abbrev pub invariant-quick_cell-loop-term : goal.invariant-quick_cell-loop-term
invariant-quick_cell-loop-term l =
    (each (cden l.globals (values l.env)) (slice_range (terms_of l.at) 0 l.term-index) ≡ Some (map natural (take l.count l.index)))
    × (total (settle l.globals (values l.env)) (slice_range (terms_of l.at) 0 l.term-index) ≡ 0)
    × (l.count ≤ 8)
    × (length l.index ≡ 8)
