use Rattle.std.proofs.Common.{ap}
use Rattle.aql_syntax.specs.Tree as tree
use Rattle.aql_syntax.specs.Laws.View.{tree_row-vec}
use Rattle.aql_syntax.proofs.build.members.Goals as goal

pub returns : goal.returns
returns c = ap tree.members (tree_row-vec c.args.items)
