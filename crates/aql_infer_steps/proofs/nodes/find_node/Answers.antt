use Rattle.std.proofs.Common.{rules}
use Rattle.aql_infer_steps.specs.contracts.sketch.InstancePartialEq.TheImpl.{ghosts}
use Rattle.aql_infer_steps.proofs.Noting.{found_known}
use Rattle.aql_infer_steps.proofs.nodes.find_node.Goals as goal

pub returns : goal.returns
returns c = found_known ghosts.eq c.args.known.now.entries c.args.i c.copied.result _ (λ a b e. search rules) c.get.ensures.value c.copied.ensures
