use Rattle.std.proofs.Common.{◌≡◌, ◌++◌, List, length}
use Rattle.nrca_term.specs.Rules.{lets}
use Rattle.nrca_term.specs.Term.{Term}
use Rattle.nrca_term.specs.View.{terms_of}
use Rattle.nrca_graph.specs.Made.{MakesOf}
use Rattle.nrca_graph.proofs.tables.bind_all.Given as goal

-- the terms are those left and those that have a let, which stand around the body
abbrev pub invariant-loop-term : goal.invariant-loop-term
invariant-loop-term l = (rest : List Term) × (terms_of l.fn.terms ≡ terms_of l.terms ++ rest) × MakesOf (lets (length (terms_of l.terms)) rest) l.fn.body l.inner

abbrev pub decreases-loop-term : goal.decreases-loop-term
decreases-loop-term l = length l.terms.0.items
