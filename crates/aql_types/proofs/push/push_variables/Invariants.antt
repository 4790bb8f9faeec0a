use Rattle.aql_types.specs.Pushed.{IsFresh}
use Rattle.aql_types.proofs.push.push_variables.Given as goal

abbrev pub invariant-loop-i : goal.invariant-loop-i
invariant-loop-i l = IsFresh l._i l.g
