use Rattle.std.proofs.Common.{◌≡◌, ℕ, ◌<◌, false}
use Rattle.std.specs.Prelude.{slice_index, slice_index_or}
use Rattle.std.specs.Ordering.{nat_cmp}
use Rattle.aql_value.specs.Ops.{compare_by}
use Rattle.nrca_numbers.proofs.lanes.compared_all.Given as goal

abbrev pub invariant-loop-j : goal.invariant-loop-j
invariant-loop-j l =
    (k : ℕ) → k < l.j → slice_index_or l.truths k false ≡ compare_by l.op (nat_cmp (slice_index l.first k) (slice_index l.second k))
