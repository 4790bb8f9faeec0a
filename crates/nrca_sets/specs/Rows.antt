-- What rows stand for.
use Rattle.std.specs.Prelude.{ℕ, zero, suc, List, map}
use Rattle.std.specs.declared.cmp.Ordering.{Ordering}
use Rattle.std.specs.declared.cmp.Ordering.TheVariants.{Less, Equal, Greater}
use Rattle.aql_value.specs.Datum.{Datum, natural, set, data_of}
use Rattle.aql_value.specs.Order.{datum_cmp}
use Rattle.nrca_sets.specs.Pairs.{pair_value}
use Rattle.nrca_sets.specs.declared.rows.Rows.{Rows}
use Rattle.nrca_sets.specs.declared.rows.Rows.TheVariants.{Plain, Ones, Twos}

-- the values that rows are, in their order
abbrev pub row_data : Rows → List Datum
row_data (Plain items) = items
row_data (Ones numbers) = map natural numbers.items
row_data (Twos pairs) = map pair_value pairs.items

-- the order of two sets as values
abbrev pub set_order : List Datum → List Datum → Ordering
set_order xs ys = datum_cmp (set (data_of xs)) (set (data_of ys))

-- the order of n values of one kind to m values of a greater kind
abbrev pub kinds_cmp : ℕ → ℕ → Ordering
kinds_cmp zero zero = Equal
kinds_cmp (suc n) zero = Greater
kinds_cmp n (suc m) = Less
