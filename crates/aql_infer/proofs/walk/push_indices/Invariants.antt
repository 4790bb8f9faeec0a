use Rattle.std.proofs.Common.{◌≡◌, drop}
use Rattle.aql_syntax.specs.Typing.{with_indices}
use Rattle.aql_syntax.specs.View.{axes_in}
use Rattle.aql_infer_steps.specs.View.{locals_of, Extends}
use Rattle.aql_infer.proofs.walk.push_indices.Given as goal

abbrev pub invariant-loop-b : goal.invariant-loop-b
invariant-loop-b l = record {
  names : with_indices (axes_in (drop l.b-index l.binds)) (locals_of l.positions l.env.items) ≡ with_indices (axes_in l.binds) (locals_of l.positions l.initial.env.items);
  extends : Extends l.initial.env.items l.env.items;
}
