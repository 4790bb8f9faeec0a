use Rattle.std.proofs.Common.{sym, subst}
use Rattle.std.specs.List.Sorted.{IsStrictlySortedBy}
use Rattle.aql_value.specs.Canon.{IsAscending}
use Rattle.nrca_sets.proofs.set.Set.new.Goals as goal

pub invariant_of-result : goal.invariant_of-result
unfolding IsStrictlySortedBy
invariant_of-result c = subst IsAscending (sym c.new.ensures) tt
