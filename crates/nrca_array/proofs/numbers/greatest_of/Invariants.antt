use Rattle.std.proofs.Common.{◌≡◌, take}
use Rattle.nrca_array.specs.Packing.{greatest}
use Rattle.nrca_array.proofs.numbers.greatest_of.Given as goal

abbrev pub invariant-loop-x : goal.invariant-loop-x
invariant-loop-x l = l.most ≡ greatest (take l.x-index l.xs)
