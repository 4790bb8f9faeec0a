use Rattle.std.proofs.Common.{◌≡◌, ◌++◌, suc, take, codes}
use Rattle.aql_value.specs.Datum.{data_of}
use Rattle.aql_print.specs.Joined.{join_texts}
use Rattle.aql_print.specs.ValueText.{texts}
use Rattle.aql_print.proofs.value.+print_value.Given as goal

abbrev pub decreases-print_value : goal.decreases-print_value
decreases-print_value l = goal.size-print_value l

abbrev pub decreases-put_items : goal.decreases-put_items
decreases-put_items l = goal.size-put_items l

abbrev pub decreases-put_enclosed : goal.decreases-put_enclosed
decreases-put_enclosed l = suc (goal.size-put_enclosed l)

-- the values so far are written
abbrev pub invariant-put_items-loop-i : goal.invariant-put_items-loop-i
invariant-put_items-loop-i l = l.out.items ≡ l.initial.out.items ++ join_texts (codes ", ") (take l.i (texts (data_of l.items)))
