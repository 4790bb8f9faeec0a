use Rattle.std.proofs.Common.{◌≡◌, ◌++◌, take, codes}
use Rattle.aql_ty.specs.View.{types_of}
use Rattle.aql_print.specs.Joined.{join_texts}
use Rattle.aql_print.specs.TypeText.{part_texts}
use Rattle.aql_print.proofs.scheme.+add_type.Given as goal

-- the parts so far are written
abbrev pub invariant-add_parts-loop-i : goal.invariant-add_parts-loop-i
invariant-add_parts-loop-i l = l.text.items ≡ l.initial.text.items ++ join_texts (codes " * ") (take l.i (part_texts (types_of l.ts) l.names))
