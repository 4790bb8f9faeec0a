use Rattle.std.proofs.Common.{◌≡◌, ◌++◌, take}
use Rattle.std.specs.List.{flat_map}
use Rattle.aql_print.specs.ValueText.{byte_text}
use Rattle.aql_print.proofs.bytes.put_escaped.Given as goal

-- the bytes so far are written
abbrev pub invariant-loop-b : goal.invariant-loop-b
invariant-loop-b l = l.out.items ≡ l.initial.out.items ++ flat_map byte_text (take l.b-index l.bytes)
