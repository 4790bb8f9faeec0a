-- Encoded values and types as the code makes them.
use Rattle.std.specs.Prelude.{◌≡◌, ℕ, List, map}
use Rattle.aql_value.specs.declared.value.Value.{Value}
use Rattle.aql_value.specs.Datum.{Datum}
use Rattle.aql_value.specs.Indices.{indices}
use Rattle.aql_value.specs.Meaning.{datum}
use Rattle.aql_value.specs.Operations.{set_of}
use Rattle.aql_ty.specs.declared.ty.Ty.{Ty}
use Rattle.aql_ty.specs.View.{type_of}
use Rattle.nrca_graph.specs.Encoding.{encoding, graph, pair, pair_type}

-- the graph of an array of these dimensions and cells, each cell encoded, as a set
abbrev pub graph_set : List ℕ → List Datum → Datum
graph_set ds cells = set_of (graph (indices ds) (map encoding cells))

-- the tuple of two values
abbrev pub IsPair : Value → Value → Value → Type 0
IsPair v w u = datum u ≡ pair (datum v) (datum w)

-- the type of tuples of two
abbrev pub IsPairType : Ty → Ty → Ty → Type 0
IsPairType s t u = type_of u ≡ pair_type (type_of s) (type_of t)
