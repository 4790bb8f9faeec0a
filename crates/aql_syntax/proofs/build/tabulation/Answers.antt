use Rattle.std.proofs.Common.{ap}
use Rattle.aql_syntax.specs.Tree as tree
use Rattle.aql_syntax.specs.View.{tree_of}
use Rattle.aql_syntax.specs.Laws.View.{axes_of-made}
use Rattle.aql_syntax.proofs.build.tabulation.Goals as goal

pub returns : goal.returns
returns c = ap (λ (xs : tree.Axes). tree.tab xs (tree_of c.args.body.value)) (axes_of-made c.args.items)
