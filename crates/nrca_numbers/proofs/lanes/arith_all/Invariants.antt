use Rattle.std.proofs.Common.{◌≡◌, ℕ, ◌<◌, ◌≤◌, Some}
use Rattle.std.specs.Prelude.{slice_index}
use Rattle.aql_value.specs.Ops.{arith_by}
use Rattle.nrca_numbers.proofs.lanes.arith_all.Given as goal

abbrev pub invariant-loop-j : goal.invariant-loop-j
invariant-loop-j l =
    ((k : ℕ) → k < l.j → arith_by l.op (slice_index l.initial.numbers k) (slice_index l.second k) ≡ Some (slice_index l.numbers k))
    × ((k : ℕ) → l.j ≤ k → slice_index l.numbers k ≡ slice_index l.initial.numbers k)
