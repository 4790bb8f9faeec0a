use Rattle.aql_types.specs.EquationView.{equation_list}
use Rattle.aql_types.specs.Graphs.{forms_of}
use Rattle.aql_types.specs.Pushed.{AreNumbered, PushesEquations}
use Rattle.aql_types.proofs.push.push_equations.Given as goal

abbrev pub invariant-loop-e : goal.invariant-loop-e
invariant-loop-e l = record {
  numbered : AreNumbered l.g.variables (forms_of l.g);
  pushes : PushesEquations l.made.items l.g l.fn.g (equation_list l.yielded);
}
