use Rattle.std.proofs.Common.{rules}
use Rattle.aql_value.specs.Laws.Sorted.{sorted_meaning}
use Rattle.aql_value.proofs.sets.canon.Goals as goal

pub from_sorted-requires : goal.from_sorted-requires
from_sorted-requires c = search (rules, sorted_meaning)
