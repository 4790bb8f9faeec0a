use Rattle.std.proofs.Common.{◌≡◌, ◌++◌, map, take, codes, decimal}
use Rattle.aql_print.specs.Joined.{join_texts}
use Rattle.aql_print.proofs.value.put_dims.Given as goal

-- the dimensions so far are written
abbrev pub invariant-loop-i : goal.invariant-loop-i
invariant-loop-i l = l.out.items ≡ l.initial.out.items ++ join_texts (codes ",") (take l.i (map decimal l.dims))
