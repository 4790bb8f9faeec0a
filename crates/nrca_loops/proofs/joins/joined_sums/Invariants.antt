use Rattle.std.proofs.Common.{◌≡◌, ◌≤◌, take}
use Rattle.std.specs.Prelude.{Some, fold, sum_by}
use Rattle.nrca_loops.specs.Runs.{sums_join}
use Rattle.nrca_loops.proofs.joins.joined_sums.Given as goal

abbrev pub invariant-loop-sum : goal.invariant-loop-sum
invariant-loop-sum l =
    (l.total ≡ fold (λ s d. sums_join s d.answer) (Some 0) (take l.sum-index l.parts))
    × (l.turns ≡ sum_by (λ d. d.turns) (take l.sum-index l.parts))
    × (l.turns ≤ l.budget)
