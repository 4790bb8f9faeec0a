use Rattle.std.proofs.Common.{take, Some}
use Rattle.nrca_term.specs.View.{terms_of}
use Rattle.nrca_term.specs.Cells.{CountsCells}
use Rattle.nrca_term.proofs.cells.cell_count.Given as goal

abbrev pub invariant-loop-i : goal.invariant-loop-i
invariant-loop-i l = CountsCells (take l.i (terms_of l.dims)) (Some l.all)
