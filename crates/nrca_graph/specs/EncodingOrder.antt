-- Encoding keeps the order of the values of a type.
use Rattle.std.proofs.Common.{◌≡◌}
use Rattle.aql_value.specs.Datum.{Datum}
use Rattle.aql_value.specs.Order.{datum_cmp}
use Rattle.aql_ty.specs.Types.{Ty}
use Rattle.aql_ty.specs.ValueTypes.{HasType}
use Rattle.nrca_graph.specs.Encoding.{encoding}

-- what the order of the cells of a type gives for lists of them
abbrev pub KeepsOrder : Ty → Type 0
KeepsOrder T = (v w : Datum) → HasType T v → HasType T w → datum_cmp (encoding v) (encoding w) ≡ datum_cmp v w

-- what the order of an encoded value gives: it stands to each encoded value of its types as the value itself does
abbrev pub IsOrderedAs : Datum → Datum → Type 0
IsOrderedAs v w = (T : Ty) (y : Datum) → HasType T v → HasType T y → datum_cmp w (encoding y) ≡ datum_cmp v y
