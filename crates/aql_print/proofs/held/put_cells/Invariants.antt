use Rattle.std.proofs.Common.{◌≡◌, ◌++◌, take, codes}
use Rattle.aql_value.specs.Datum.{data_of}
use Rattle.aql_print.specs.Joined.{join_texts}
use Rattle.aql_print.specs.ValueText.{texts}
use Rattle.aql_print.proofs.held.put_cells.Given as goal

-- the cells so far are written
abbrev pub invariant-loop-i : goal.invariant-loop-i
invariant-loop-i l = l.out.items ≡ l.initial.out.items ++ join_texts (codes ", ") (take l.i (texts (data_of l.a.cells)))
