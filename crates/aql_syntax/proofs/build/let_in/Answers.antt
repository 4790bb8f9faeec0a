use Rattle.std.proofs.Common.{ap}
use Rattle.aql_syntax.specs.Tree as tree
use Rattle.aql_syntax.specs.View.{tree_of}
use Rattle.aql_syntax.specs.Laws.View.{defs_of-made}
use Rattle.aql_syntax.proofs.build.let_in.Goals as goal

pub returns : goal.returns
returns c = ap (λ (ds : tree.Defs). tree.bindings ds (tree_of c.args.body.value)) (defs_of-made c.args.items)
