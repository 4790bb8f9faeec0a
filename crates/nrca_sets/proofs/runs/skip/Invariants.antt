use Rattle.std.proofs.Common.{◌-◌, ◌≤◌, length}
use Rattle.nrca_sets.specs.Runs.{count_below}
use Rattle.nrca_sets.proofs.runs.skip.Given as goal

-- so many pairs at the front are known to be below
abbrev pub invariant-loop-at : goal.invariant-loop-at
invariant-loop-at l = l.at ≤ count_below l.below l.pairs

abbrev pub decreases-loop-at : goal.decreases-loop-at
decreases-loop-at l = length l.pairs - l.at
