use Rattle.std.proofs.Common.{◌≡◌, drop}
use Rattle.aql_ty.specs.Types.{append}
use Rattle.aql_ty.specs.View.{types_of}
use Rattle.aql_ty.proofs.ty.+copy.Given as goal

abbrev pub invariant-copy_all-loop-t : goal.invariant-copy_all-loop-t
invariant-copy_all-loop-t l = append (types_of l.made.items) (types_of (drop l.t-index l.ts)) ≡ types_of l.ts
