use Rattle.std.proofs.Common.{◌≡◌, ◌+◌, drop}
use Rattle.aql_ty.specs.Variables.{variable_index}
use Rattle.aql_ty.proofs.variables.find_index.Given as goal

abbrev pub invariant-loop-i : goal.invariant-loop-i
invariant-loop-i l = l.i + variable_index l.x (drop l.i l.names) ≡ variable_index l.x l.names
