use Rattle.aql_ty.specs.View.{type_of}
use Rattle.aql_infer_steps.proofs.Noting.{part_ok, no_part}
use Rattle.aql_infer_steps.proofs.nodes.push_part.Goals as goal

pub returns-in-Some : goal.returns-in-Some
returns-in-Some c = part_ok c.args.positions.now c.push_type.result c.args.g c.args.i (type_of c.in-Some.t.now) c.in-Some.ensures c.push_type.ensures

pub returns-in-None : goal.returns-in-None
returns-in-None c = no_part c.args.positions.now c.push_natural.result c.args.g c.args.i c.in-None.ensures c.push_natural.ensures
