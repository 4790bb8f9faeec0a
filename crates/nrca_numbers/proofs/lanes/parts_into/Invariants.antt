use Rattle.std.proofs.Common.{◌≡◌, ℕ, ◌<◌}
use Rattle.std.specs.Prelude.{slice_index, slice_index_or}
use Rattle.nrca_numbers.specs.Lanes.{part_at}
use Rattle.nrca_numbers.proofs.lanes.parts_into.Given as goal

abbrev pub invariant-loop-j : goal.invariant-loop-j
invariant-loop-j l =
    (k : ℕ) → k < l.j → slice_index l.numbers k ≡ part_at l.at (slice_index_or l.pairs k (0, 0))
