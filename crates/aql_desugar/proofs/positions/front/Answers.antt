use Rattle.aql_desugar.proofs.Finding.{front_named}
use Rattle.aql_desugar.proofs.positions.front.Goals as goal

pub invariant_of-result : goal.invariant_of-result
invariant_of-result c = front_named c.args.n c.args.decls.now c.args.names.now c.requires.named
