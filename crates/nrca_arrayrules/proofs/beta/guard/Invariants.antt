use Rattle.std.proofs.Common.{◌≡◌, ◌++◌, List, length}
use Rattle.nrca_term.specs.Rules.{guard}
use Rattle.nrca_term.specs.Term.{Term}
use Rattle.nrca_term.specs.View.{term_of, terms_of}
use Rattle.nrca_arrayrules.proofs.beta.guard.Given as goal

abbrev pub invariant-loop-bound : goal.invariant-loop-bound
invariant-loop-bound l = (rest : List Term) × (terms_of l.fn.bounds ≡ terms_of l.bounds ++ rest) × (term_of l.inner ≡ guard l.rank rest (term_of l.fn.body))

abbrev pub decreases-loop-bound : goal.decreases-loop-bound
decreases-loop-bound l = length l.bounds.0.items
