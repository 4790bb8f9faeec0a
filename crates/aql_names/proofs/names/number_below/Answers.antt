use Rattle.std.proofs.Common.{nat_lt, rules}
use Rattle.std.proofs.lemmas.List.Sorted.{IsPartitionPoint-from_clause}
use Rattle.aql_names.proofs.Positions.{point_count}
use Rattle.aql_names.proofs.names.number_below.Goals as goal

pub returns : goal.returns
returns c =
    let n = c.args.n in
    point_count n c.args.positions.now c.partition_point.result c.partition_point.ensures.bound
    (IsPartitionPoint-from_clause (λ p. nat_lt p n) _ _ c.partition_point.ensures.partitioned c.requires.ascending (λ a r q k. search rules))
