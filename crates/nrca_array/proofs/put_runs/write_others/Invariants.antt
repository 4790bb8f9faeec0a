use Rattle.std.proofs.Common.{◌≡◌, ◌*◌, take}
use Rattle.nrca_array.specs.Packing.{spell_numbers}
use Rattle.nrca_array.specs.Kept.{width_bytes}
use Rattle.nrca_array.specs.Runs.{run_numbers, HaveBits}
use Rattle.nrca_array.proofs.put_runs.write_others.Given as goal

abbrev pub invariant-loop-k : goal.invariant-loop-k
invariant-loop-k l = record {
  bytes : take (width_bytes l.width * l.k) l.buffer ≡ spell_numbers (width_bytes l.width) (take l.k (run_numbers l.run));
  bits : HaveBits (take l.k (run_numbers l.run)) l.bits;
}
