use Rattle.std.proofs.Common.{◌≡◌, drop}
use Rattle.aql_ty.specs.View.{types_of}
use Rattle.aql_ty.specs.Variables.{variables_all}
use Rattle.aql_ty.proofs.variables.+variables_of.Given as goal

abbrev pub invariant-variables_of_all-loop-t : goal.invariant-variables_of_all-loop-t
invariant-variables_of_all-loop-t l = variables_all (types_of (drop l.t-index l.ts)) l.seen.items ≡ variables_all (types_of l.ts) l.initial.seen.items
