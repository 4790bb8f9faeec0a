use Rattle.std.proofs.Common.{◌≡◌, drop}
use Rattle.aql_ty.specs.Types.{occurs_all}
use Rattle.aql_ty.specs.View.{types_of}
use Rattle.aql_ty.proofs.ty.+occurs.Given as goal

abbrev pub invariant-has_variable_all-loop-t : goal.invariant-has_variable_all-loop-t
invariant-has_variable_all-loop-t l = occurs_all l.x (types_of (drop l.t-index l.ts)) ≡ occurs_all l.x (types_of l.ts)
