use Rattle.std.proofs.Common.{◌≡◌, ◌≤◌, map}
use Rattle.aql_value.specs.Lists.{below}
use Rattle.nrca_sets.specs.Runs.{count_below}
use Rattle.nrca_sets.proofs.runs.starts.Given as goal

-- the places so far, and so many pairs at the front are known to be below the next number
abbrev pub invariant-loop-i : goal.invariant-loop-i
invariant-loop-i l = (map (λ k. count_below k l.pairs) (below l.i) ≡ l.starts.items) × (l.at ≤ count_below l.i l.pairs)
