use Rattle.std.proofs.Common.{◌≡◌, take}
use Rattle.aql_syntax.proofs.copies.copy_kinds.Given as goal

abbrev pub invariant-loop-kind : goal.invariant-loop-kind
invariant-loop-kind l = l.made.items ≡ take l.kind-index l.kinds
