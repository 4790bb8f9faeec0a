use Rattle.aql_ty.specs.View.{types_of}
use Rattle.aql_types.specs.EquationView.{equation_list}
use Rattle.aql_types.specs.Laws.Pushing.{made_ok}
use Rattle.aql_types.proofs.push.make_graph.Goals as goal

pub returns : goal.returns
returns c =
    made_ok c.push_equations.result c.in_ok-variables.variables c.in_ok-g-2.g c.in_ok-g.g (equation_list c.args.work.items) (types_of c.args.uses.items)
    c.in_ok-g.ensures c.in_ok-g-2.ensures c.push_equations.ensures
