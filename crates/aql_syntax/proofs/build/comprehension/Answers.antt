use Rattle.std.proofs.Common.{ap}
use Rattle.aql_syntax.specs.Tree as tree
use Rattle.aql_syntax.specs.View.{tree_of}
use Rattle.aql_syntax.specs.Laws.View.{qual_row-vec}
use Rattle.aql_syntax.proofs.build.comprehension.Goals as goal

pub returns : goal.returns
returns c = ap (tree.comp (tree_of c.args.head.value)) (qual_row-vec c.args.items)
