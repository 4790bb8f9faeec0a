use Rattle.std.proofs.Common.{◌≡◌, ◌+◌, ◌≤◌, []}
use Rattle.std.specs.Prelude.{Some, fold, sum_by}
use Rattle.nrca_loops.specs.Runs.{lists_join}
use Rattle.nrca_loops.proofs.joins.joined_cells.Given as goal

abbrev pub invariant-loop-run : goal.invariant-loop-run
invariant-loop-run l =
    (fold (λ s d. lists_join s d.answer) (Some []) l.fn.parts.items ≡ fold (λ s d. lists_join s d.answer) l.cells l.run-iterator.rest.items)
    × (sum_by (λ d. d.turns) l.fn.parts.items ≡ l.turns + sum_by (λ d. d.turns) l.run-iterator.rest.items)
    × (l.turns ≤ l.budget)
