use Rattle.std.proofs.Common.{take, Some}
use Rattle.nrca_term.specs.View.{terms_of}
use Rattle.nrca_arrayrules.specs.Constants.{IsOffset}
use Rattle.nrca_arrayrules.proofs.subscripts.literal_offset.Given as goal

abbrev pub invariant-loop-j : goal.invariant-loop-j
invariant-loop-j l = IsOffset (take l.j (terms_of l.dims)) (take l.j (terms_of l.at)) (Some l.offset)
