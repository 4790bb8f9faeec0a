use Rattle.aql_ty.specs.View.{types_of}
use Rattle.aql_types.specs.EquationView.{equation_list}
use Rattle.aql_types.proofs.solve.solve.Goals as goal

pub returns : goal.returns
returns c = c.solve_graph.ensures (equation_list c.args.work.items) (types_of c.args.uses.items) c.in_ok-equations.ensures

pub solve_graph-requires : goal.solve_graph-requires
solve_graph-requires c = c.in_ok-equations.ensures.below
