use Rattle.std.proofs.Common.{ℕ, ◌<◌}
use Rattle.std.specs.Prelude.{slice_index}
use Rattle.nrca_array.specs.Runs.{run_numbers}
use Rattle.nrca_array.proofs.run.Run.first_at_least.Given as goal

abbrev pub invariant-loop-k : goal.invariant-loop-k
invariant-loop-k l = (j : ℕ) → j < l.k → slice_index (run_numbers l.self) j < l.least
