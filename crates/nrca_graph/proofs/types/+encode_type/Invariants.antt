use Rattle.std.proofs.Common.{◌≡◌, drop}
use Rattle.aql_ty.specs.Types.{append}
use Rattle.aql_ty.specs.View.{types_of}
use Rattle.nrca_graph.specs.Encoding.{encoding_types}
use Rattle.nrca_graph.proofs.types.+encode_type.Given as goal

abbrev pub invariant-encode_types-loop-t : goal.invariant-encode_types-loop-t
invariant-encode_types-loop-t l = append (types_of l.made.items) (encoding_types (types_of (drop l.t-index l.ts))) ≡ encoding_types (types_of l.ts)
