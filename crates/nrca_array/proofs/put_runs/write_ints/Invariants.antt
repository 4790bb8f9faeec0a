use Rattle.std.proofs.Common.{◌≡◌, ◌*◌, take}
use Rattle.nrca_array.specs.Packing.{spell_numbers}
use Rattle.nrca_array.specs.Runs.{run, HaveBits}
use Rattle.nrca_array.proofs.put_runs.write_ints.Given as goal

abbrev pub invariant-loop-k : goal.invariant-loop-k
invariant-loop-k l = record {
  bytes : take (4 * l.k) l.buffer ≡ spell_numbers 4 (take l.k (run 4 l.step l.count l.bytes));
  bits : HaveBits (take l.k (run 4 l.step l.count l.bytes)) l.bits;
}
