use Rattle.std.proofs.Common.{◌≡◌, ◌++◌, take}
use Rattle.nrca_array.proofs.numbers.Numbers.append.Given as goal

abbrev pub invariant-loop-i : goal.invariant-loop-i
invariant-loop-i l = l.all ≡ l.fn.self ++ take l.i l.fn.others
