use Rattle.std.proofs.Common.{◌≡◌, ◌*◌, take}
use Rattle.nrca_array.specs.Packing.{spell_numbers}
use Rattle.nrca_array.proofs.bytes.write_in_eight.Given as goal

abbrev pub invariant-loop-i : goal.invariant-loop-i
invariant-loop-i l = take (8 * l.i) l.buffer ≡ spell_numbers 8 (take l.i l.xs)
