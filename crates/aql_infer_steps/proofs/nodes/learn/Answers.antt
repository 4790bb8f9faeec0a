use Rattle.std.proofs.Common.{rules}
use Rattle.aql_infer_steps.proofs.Noting.{learned}
use Rattle.aql_infer_steps.proofs.nodes.learn.Goals as goal

pub returns : goal.returns
returns c = learned _ c.args.known.now.entries c.insert.new.self.entries c.args.i c.args.number (λ a b e. search rules) c.in_ok-insert.ensures.entries
