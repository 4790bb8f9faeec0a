use Rattle.std.proofs.Common.{◌<◌, ℕ, get_or}
use Rattle.nrca_term.specs.Nodes.{bottom_term}
use Rattle.nrca_term.specs.Rules.{IsVariableOrNumber}
use Rattle.nrca_term.specs.View.{terms_of}
use Rattle.nrca_arrayrules.proofs.sizes.are_plain.Given as goal

abbrev pub invariant-loop-j : goal.invariant-loop-j
invariant-loop-j l = (i : ℕ) → i < l.j → IsVariableOrNumber (get_or (terms_of l.terms) i bottom_term)
