use Rattle.aql_infer_steps.proofs.Noting.{known_node, noted}
use Rattle.aql_infer_steps.proofs.nodes.push_instance.Goals as goal

pub returns-in-Some : goal.returns-in-Some
returns-in-Some c = (known_node c.args.positions.now c.args.w c.args.i c.in-Some.n c.requires c.in-Some.ensures, c.requires)

pub returns-in-None : goal.returns-in-None
returns-in-None c = noted c.args.positions.now c.push_part.result c.note.result c.args.w c.args.i c.requires c.push_part.ensures c.note.ensures
