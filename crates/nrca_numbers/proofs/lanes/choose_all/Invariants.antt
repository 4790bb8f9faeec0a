use Rattle.std.proofs.Common.{◌≡◌, ℕ, ◌<◌, ◌≤◌, false}
use Rattle.std.specs.Prelude.{slice_index_or, if◌then◌else◌}
use Rattle.nrca_numbers.proofs.lanes.choose_all.Given as goal

abbrev pub invariant-loop-j : goal.invariant-loop-j
invariant-loop-j g l =
    ((d : _) (k : ℕ) → k < l.j → slice_index_or l.all k d ≡ (if slice_index_or l.truths k false then slice_index_or l.initial.all k d else slice_index_or l.no k d))
    × ((d : _) (k : ℕ) → l.j ≤ k → slice_index_or l.all k d ≡ slice_index_or l.initial.all k d)
