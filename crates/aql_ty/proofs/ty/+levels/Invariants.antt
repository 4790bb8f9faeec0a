use Rattle.std.proofs.Common.{◌≡◌, ◌-◌, ◌^◌, ◌<◌, drop, min, max}
use Rattle.aql_ty.specs.Types.{levels_all}
use Rattle.aql_ty.specs.View.{types_of}
use Rattle.aql_ty.proofs.ty.+levels.Given as goal

abbrev pub invariant-levels_all-loop-t : goal.invariant-levels_all-loop-t
invariant-levels_all-loop-t l = record {
  fits : l.most < 2 ^ 64;
  most : min (max l.most (levels_all (types_of (drop l.t-index l.ts)))) (2 ^ 64 - 1) ≡ min (levels_all (types_of l.ts)) (2 ^ 64 - 1);
}
