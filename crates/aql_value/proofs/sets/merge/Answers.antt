use Rattle.std.proofs.Common.{◌++◌, sym, subst}
use Rattle.aql_value.specs.Canon.{IsAscending}
use Rattle.aql_value.specs.Laws.Canon.{ascending_canon}
use Rattle.aql_value.proofs.sets.merge.Goals as goal

pub invariant_of-result : goal.invariant_of-result
invariant_of-result c = subst IsAscending (sym c.in_ok-members.ensures) (ascending_canon (c.a.inside.members ++ c.b.inside.members))
