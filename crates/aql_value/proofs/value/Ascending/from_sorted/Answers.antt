use Rattle.std.proofs.Common.{rules}
use Rattle.aql_value.specs.Laws.Sorted.{dedup_ascends}
use Rattle.aql_value.proofs.value.Ascending.from_sorted.Goals as goal

pub invariant_of-result : goal.invariant_of-result
invariant_of-result c = search (rules, dedup_ascends)
