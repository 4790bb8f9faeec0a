use Rattle.std.proofs.Common.{◌≡◌, ◌++◌, take, codes}
use Rattle.aql_print.specs.Joined.{join_texts}
use Rattle.aql_print.specs.TraceText.{rule_texts}
use Rattle.aql_print.proofs.trace.print_trace.Given as goal

-- the names so far are written
abbrev pub invariant-loop-i : goal.invariant-loop-i
invariant-loop-i l = l.out.items ≡ l.initial.out.items ++ join_texts (codes " ") (take l.i (rule_texts l.trace))
