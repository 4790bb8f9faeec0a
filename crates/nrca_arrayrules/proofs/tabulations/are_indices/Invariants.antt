use Rattle.std.proofs.Common.{◌≡◌, take}
use Rattle.nrca_term.specs.View.{terms_of}
use Rattle.nrca_term.specs.Rules.{index_variables}
use Rattle.nrca_arrayrules.proofs.tabulations.are_indices.Given as goal

abbrev pub invariant-loop-j : goal.invariant-loop-j
invariant-loop-j l = take l.j (terms_of l.at) ≡ take l.j (index_variables l.rank)
