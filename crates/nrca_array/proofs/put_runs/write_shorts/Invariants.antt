use Rattle.std.proofs.Common.{◌≡◌, ◌*◌, take}
use Rattle.nrca_array.specs.Packing.{spell_numbers}
use Rattle.nrca_array.specs.Runs.{run, HaveBits}
use Rattle.nrca_array.proofs.put_runs.write_shorts.Given as goal

abbrev pub invariant-loop-k : goal.invariant-loop-k
invariant-loop-k l = record {
  bytes : take (2 * l.k) l.buffer ≡ spell_numbers 2 (take l.k (run 2 l.step l.count l.bytes));
  bits : HaveBits (take l.k (run 2 l.step l.count l.bytes)) l.bits;
}
