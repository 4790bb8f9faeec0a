use Rattle.std.proofs.Common.{◌≡◌, ℕ, ◌<◌}
use Rattle.std.specs.Prelude.{slice_index, slice_index_or}
use Rattle.nrca_numbers.specs.declared.sets.Small.TheVariants as small
use Rattle.nrca_numbers.specs.declared.sets.AtMostOne.TheVariants as at_most
use Rattle.nrca_numbers.proofs.lanes.sets_all.Given as goal

abbrev pub invariant-loop-j : goal.invariant-loop-j
invariant-loop-j l =
    (k : ℕ) → k < l.j → slice_index_or l.sets k at_most.Nothing ≡ at_most.One (small.Number (slice_index l.numbers k))
