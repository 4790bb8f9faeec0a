use Rattle.std.proofs.Common.{◌≡◌, ◌++◌, map}
use Rattle.aql_value.specs.Meaning.{datum}
use Rattle.nrca_array.proofs.builder.Builder.append.Given as goal

abbrev pub invariant-loop-value : goal.invariant-loop-value
invariant-loop-value l = l.all ≡ l.fn.self ++ map datum l.yielded
