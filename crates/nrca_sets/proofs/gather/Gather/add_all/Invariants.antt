use Rattle.std.proofs.Common.{◌≡◌, ◌++◌, map}
use Rattle.aql_value.specs.Canon.{canon}
use Rattle.aql_value.specs.Meaning.{datum}
use Rattle.nrca_sets.proofs.gather.Gather.add_all.Given as goal

-- the set of what is kept is that of what was kept and of the values so far
abbrev pub invariant-loop-value : goal.invariant-loop-value
invariant-loop-value l = canon l.gather ≡ canon (l.fn.self ++ map datum l.yielded)
