use Rattle.std.proofs.Common.{map, sym, subst}
use Rattle.aql_value.specs.Canon.{IsAscending}
use Rattle.aql_value.specs.Datum.{natural}
use Rattle.aql_value.specs.Laws.Set.{ascending_below}
use Rattle.nrca_sets.proofs.set.Set.naturals_below.Goals as goal

pub invariant_of-result : goal.invariant_of-result
invariant_of-result c = subst (λ ns. IsAscending (map natural ns)) (sym c.in_ok-numbers.ensures) (ascending_below c.args.n)
