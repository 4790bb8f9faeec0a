use Rattle.std.proofs.Common.{◌≡◌, ◌+◌, ◌-◌, ◌^◌, ◌<◌, drop, min}
use Rattle.aql_ty.specs.Types.{nodes_all}
use Rattle.aql_ty.specs.View.{types_of}
use Rattle.aql_ty.proofs.ty.+nodes.Given as goal

abbrev pub invariant-nodes_all-loop-t : goal.invariant-nodes_all-loop-t
invariant-nodes_all-loop-t l = record {
  fits : l.total < 2 ^ 64;
  sum : min (l.total + nodes_all (types_of (drop l.t-index l.ts))) (2 ^ 64 - 1) ≡ min (nodes_all (types_of l.ts)) (2 ^ 64 - 1);
}
