use Rattle.std.proofs.Common.{◌≡◌, ◌+◌, ◌≤◌, []}
use Rattle.std.specs.Prelude.{Some, fold, sum_by}
use Rattle.nrca_loops.specs.Runs.{sets_join}
use Rattle.nrca_loops.proofs.joins.joined_sets.Given as goal

abbrev pub invariant-loop-set : goal.invariant-loop-set
invariant-loop-set l =
    (fold (λ s d. sets_join s d.answer) (Some []) l.fn.parts.items ≡ fold (λ s d. sets_join s d.answer) l.members l.set-iterator.rest.items)
    × (sum_by (λ d. d.turns) l.fn.parts.items ≡ l.turns + sum_by (λ d. d.turns) l.set-iterator.rest.items)
    × (l.turns ≤ l.budget)
