use Rattle.std.proofs.Common.{◌≡◌, ◌*◌, take}
use Rattle.nrca_array.specs.Packing.{spell_numbers}
use Rattle.nrca_array.proofs.bytes.write_in_four.Given as goal

abbrev pub invariant-loop-i : goal.invariant-loop-i
invariant-loop-i l = take (4 * l.i) l.buffer ≡ spell_numbers 4 (take l.i l.xs)
