use Rattle.std.proofs.Common.{◌≡◌, ◌++◌, take}
use Rattle.aql_types.specs.Steps.{pair_parts}
use Rattle.aql_types.proofs.join.push_pairs.Given as goal

abbrev pub invariant-loop-i : goal.invariant-loop-i
invariant-loop-i l = l.work.items ≡ l.fn.work.items ++ pair_parts (take l.i l.lefts) (take l.i l.rights)
