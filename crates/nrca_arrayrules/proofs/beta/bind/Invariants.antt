use Rattle.std.proofs.Common.{◌≡◌, ◌++◌, List, length}
use Rattle.nrca_term.specs.Rules.{lets}
use Rattle.nrca_term.specs.Term.{Term}
use Rattle.nrca_term.specs.View.{term_of, terms_of}
use Rattle.nrca_arrayrules.proofs.beta.bind.Given as goal

abbrev pub invariant-loop-index : goal.invariant-loop-index
invariant-loop-index l = (rest : List Term) × (terms_of l.fn.at ≡ terms_of l.at ++ rest) × (term_of l.inner ≡ lets (length (terms_of l.at)) rest (term_of l.fn.body))

abbrev pub decreases-loop-index : goal.decreases-loop-index
decreases-loop-index l = length l.at.0.items
