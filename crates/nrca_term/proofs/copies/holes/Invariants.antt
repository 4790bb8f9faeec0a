use Rattle.std.proofs.Common.{◌≡◌, map, take}
use Rattle.nrca_term.specs.Nodes.{bottom_term}
use Rattle.nrca_term.specs.View.{term_of}
use Rattle.nrca_term.proofs.copies.holes.Given as goal

abbrev pub invariant-loop-term : goal.invariant-loop-term
invariant-loop-term l = map term_of l.all.items ≡ map (λ t. bottom_term) (take l._term-index l._term-items)
