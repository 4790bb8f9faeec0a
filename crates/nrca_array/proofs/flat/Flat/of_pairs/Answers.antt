use Rattle.std.proofs.Common.{map, sym, subst}
use Rattle.aql_value.specs.Indices.{IsTable}
use Rattle.nrca_array.specs.Groups.{numbers_set}
use Rattle.nrca_array.specs.Laws.Groups.{seconds_full}
use Rattle.nrca_array.proofs.flat.Flat.of_pairs.Goals as goal

pub new-requires-clause-table : goal.new-requires-clause-table
new-requires-clause-table c =
    subst (λ t. IsTable t) (λ i. record { dims = sym c.in_ok-dims.ensures.items i; cells = map numbers_set (sym c.in_ok-cells.ensures i) })
    (seconds_full c.args.count c.args.pairs.now)
