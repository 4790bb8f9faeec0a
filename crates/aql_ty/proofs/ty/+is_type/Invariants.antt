use Rattle.std.proofs.Common.{◌≡◌, drop}
use Rattle.aql_ty.specs.Types.{are_types}
use Rattle.aql_ty.specs.View.{types_of}
use Rattle.aql_ty.proofs.ty.+is_type.Given as goal

abbrev pub invariant-are_types-loop-t : goal.invariant-are_types-loop-t
invariant-are_types-loop-t l = are_types (types_of (drop l.t-index l.ts)) ≡ are_types (types_of l.ts)
