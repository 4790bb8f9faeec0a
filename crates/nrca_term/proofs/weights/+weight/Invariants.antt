use Rattle.std.proofs.Common.{◌≡◌, ◌+◌, ◌-◌, ◌^◌, min}
use Rattle.nrca_term.specs.Term.{form_of, form_weight, parts_of, weight_of}
use Rattle.nrca_term.specs.View.{term_of}
use Rattle.nrca_term.proofs.FirstParts.{first_weight}
use Rattle.nrca_term.proofs.weights.+weight.Given as goal

abbrev pub decreases-weight : goal.decreases-weight
decreases-weight l = weight_of (term_of l.term.now)

abbrev pub invariant-loop-i : goal.invariant-loop-i
invariant-loop-i l = l.total ≡ min (form_weight (form_of (term_of l.term)) + first_weight l.i (parts_of (term_of l.term))) (2 ^ 128 - 1)
