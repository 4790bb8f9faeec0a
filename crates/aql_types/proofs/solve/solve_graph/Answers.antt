use Rattle.aql_types.specs.Graphs.{solved_forms}
use Rattle.aql_types.proofs.Solving.{solved_made, failed_made}
use Rattle.aql_types.proofs.solve.solve_graph.Goals as goal

pub returns-in-Ok : goal.returns-in-Ok
returns-in-Ok c = λ w us h. solved_made c.args.equations.items c.args.g w us (solved_forms c.in-Ok.graph) h c.in-Ok.ensures

pub returns-in-Err : goal.returns-in-Err
returns-in-Err c = λ w us h. failed_made c.in-Err.fault c.args.equations.items c.args.g w us h c.in-Err.ensures
