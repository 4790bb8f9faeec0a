-- The fault that ends the loop is the next of the answers.
use Rattle.std.proofs.Common.{◌∷◌, ◌++◌, map, ap, ◌∙◌}
use Rattle.std.specs.Prelude.{Ok, Err}
use Rattle.nrca_par.proofs.Answered.{contains_next}
use Rattle.nrca_par.proofs.pieces.gather.Goals as goal

pub returns-in-Err-clause-spent : goal.returns-in-Err-clause-spent
returns-in-Err-clause-spent g c =
    λ e. contains_next _ _ _ _ (c.loop-answer.invariant ∙ ap (λ ws. map Ok c.loop-answer.all.items ++ ws) (c.in-Some.ensures.steps.0 ∙ ap (λ a. a ∷ c.next.new.self.rest.items) (c.in-Err.is ∙ ap Err e)))
