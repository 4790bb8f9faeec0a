use Rattle.std.proofs.Common.{◌≡◌, ◌+◌, ◌*◌}
use Rattle.nrca_term.specs.Term.{weight_of}
use Rattle.nrca_term.specs.View.{term_of}
use Rattle.nrca_term.proofs.Filling.{filled}
use Rattle.nrca_term.proofs.copies.+copy.Given as goal

abbrev pub invariant-fill_parts-loop-i : goal.invariant-fill_parts-loop-i
invariant-fill_parts-loop-i l = term_of l.to ≡ filled l.i (term_of l.from)

abbrev pub decreases-copy_in : goal.decreases-copy_in
decreases-copy_in l = 2 * weight_of (term_of l.from.now) + 1

abbrev pub decreases-fill_parts : goal.decreases-fill_parts
decreases-fill_parts l = 2 * weight_of (term_of l.from.now)
