use Rattle.std.proofs.Common.{◌≡◌, take}
use Rattle.nrca_array.specs.Packing.{spell_numbers}
use Rattle.nrca_array.specs.Kept.{width_bytes, numbers_at}
use Rattle.nrca_array.proofs.numbers.widen.Given as goal

abbrev pub invariant-loop-i : goal.invariant-loop-i
invariant-loop-i l = l.wider.items ≡ spell_numbers (width_bytes l.least) (take l.i (numbers_at (width_bytes l.width) l.count l.bytes.items))
