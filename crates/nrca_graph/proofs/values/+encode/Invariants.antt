use Rattle.std.proofs.Common.{◌≡◌, map, take, length}
use Rattle.aql_value.specs.Indices.{indices}
use Rattle.aql_value.specs.Meaning.{datum}
use Rattle.nrca_graph.specs.Encoding.{encoding, graph}
use Rattle.nrca_graph.proofs.values.+encode.Given as goal

-- the encodings of the items so far
abbrev pub invariant-encode_items-loop-v : goal.invariant-encode_items-loop-v
invariant-encode_items-loop-v l = map datum l.made.items ≡ map encoding (take l.v-index l.items)

-- an index of the rank, and the pairs of the cells so far
abbrev pub invariant-encode_pairs-loop-place : goal.invariant-encode_pairs-loop-place
invariant-encode_pairs-loop-place l =
    (length l.at ≡ length l.dims) × (map datum l.pairs.items ≡ graph (indices l.dims) (map encoding (take l.place l.cells)))
