use Rattle.std.proofs.Common.{◌≡◌, take}
use Rattle.nrca_array.specs.Groups.{second_numbers}
use Rattle.nrca_array.proofs.groups.seconds_of.Given as goal

-- the numbers so far are those of the pairs so far
abbrev pub invariant-loop-pair : goal.invariant-loop-pair
invariant-loop-pair l = l.seconds.items ≡ second_numbers (take l.pair-index l.pairs)
