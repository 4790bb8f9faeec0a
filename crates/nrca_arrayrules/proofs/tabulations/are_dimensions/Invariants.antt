use Rattle.std.proofs.Common.{◌<◌, ℕ, suc, get_or, length}
use Rattle.nrca_term.specs.Nodes.{bottom_term}
use Rattle.nrca_term.specs.View.{term_of, terms_of}
use Rattle.nrca_arrayrules.specs.Whole.{IsDimension}
use Rattle.nrca_arrayrules.proofs.tabulations.are_dimensions.Given as goal

abbrev pub invariant-loop-j : goal.invariant-loop-j
invariant-loop-j l = (i : ℕ) → i < l.j → IsDimension (length (terms_of l.bounds)) (suc i) (term_of l.array) (get_or (terms_of l.bounds) i bottom_term)
