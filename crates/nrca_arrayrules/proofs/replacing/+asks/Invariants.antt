use Rattle.std.proofs.Common.{◌*◌, ◌+◌, ◌<◌, ℕ, false}
use Rattle.nrca_term.specs.Term.{weight_of}
use Rattle.nrca_term.specs.View.{term_of}
use Rattle.nrca_arrayrules.specs.Replacing.{AsksInPart}
use Rattle.nrca_arrayrules.proofs.replacing.+asks.Given as goal

abbrev pub invariant-asks_in_parts-loop-i : goal.invariant-asks_in_parts-loop-i
invariant-asks_in_parts-loop-i l = (j : ℕ) → j < l.i → AsksInPart l.at j (term_of l.term) false

abbrev pub decreases-asks_under : goal.decreases-asks_under
decreases-asks_under l = 4 * weight_of (term_of l.term.now) + 2

abbrev pub decreases-asks_in_parts : goal.decreases-asks_in_parts
decreases-asks_in_parts l = 4 * weight_of (term_of l.term.now) + 1

abbrev pub decreases-asks_in_part : goal.decreases-asks_in_part
decreases-asks_in_part l = 4 * weight_of (term_of l.term.now)
