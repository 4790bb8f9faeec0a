use Rattle.std.proofs.Common.{take}
use Rattle.aql_ty.specs.Types.{apply_all}
use Rattle.aql_ty.specs.View.{types_of}
use Rattle.aql_types.specs.Graphs.{forms_of}
use Rattle.aql_types.specs.Pushed.{shift, AreNumbered, PushesAll}
use Rattle.aql_types.proofs.push.+push.Given as goal

abbrev pub invariant-push_types-loop-t : goal.invariant-push_types-loop-t
invariant-push_types-loop-t l = record {
  numbered : AreNumbered l.g.variables (forms_of l.g);
  pushes : PushesAll l.made.items l.g l.fn.g (apply_all (shift l.by) (types_of (take l.t-index l.ts)));
}
