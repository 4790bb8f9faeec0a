-- Each value inside a value has fewer nodes.
use Rattle.std.specs.Prelude.{◌≤◌, max, List, [], ◌∷◌, map}
use Rattle.std.proofs.Common.{arith}
use denote.Param.Weighed.{most}
use Rattle.aql_value.specs.NodeCount.{node_count, node_count_list}
use Rattle.aql_value.specs.Meaning.{datum}
use Rattle.aql_value.specs.declared.value.Value.{Value}
use Rattle.aql_value.specs.declared.value.Value.TheVariants.{Nat, Bool, Text, Row, Members, Grid}
use Rattle.aql_value.specs.declared.value.Ascending.TheDeep.{deep-Value}

-- the depth by which the program counts is at most the number of nodes
pub deep_le-node_count : (v : Value) → deep-Value v ≤ node_count (datum v)
deep_le-node_count (Nat n) = omega arith
deep_le-node_count (Bool b) = omega arith
deep_le-node_count (Text s) = omega arith
deep_le-node_count (Row p) = omega arith
deep_le-node_count (Members m) = omega arith
deep_le-node_count (Grid c) = omega arith

-- the values of a list are no deeper than it has nodes
pub most_le-node_count : (vs : List Value) → max (most deep-Value vs) 0 ≤ node_count_list (map datum vs)
most_le-node_count [] = omega arith
most_le-node_count (v ∷ vs) = omega (arith, deep_le-node_count v, most_le-node_count vs)
