use Rattle.std.proofs.Common.{◌≡◌, ◌-◌, length}
use Rattle.nrca_loops.proofs.Walked.{Reached}
use Rattle.nrca_loops.proofs.runs.set_index.Given as goal

abbrev pub invariant-loop-k : goal.invariant-loop-k
invariant-loop-k l = (length l.at ≡ length l.dims) × Reached l.dims l.at (length l.dims - l.k) l.place l.rest
