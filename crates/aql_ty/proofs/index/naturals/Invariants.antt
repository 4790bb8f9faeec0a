use Rattle.std.proofs.Common.{◌≡◌}
use Rattle.aql_ty.specs.Types.{natural_types}
use Rattle.aql_ty.specs.View.{types_of}
use Rattle.aql_ty.proofs.index.naturals.Given as goal

abbrev pub invariant-loop-i : goal.invariant-loop-i
invariant-loop-i l = types_of l.items.items ≡ natural_types l._i
