use Rattle.std.proofs.Common.{ap}
use Rattle.aql_value.specs.Strict.{Strict}
use Rattle.aql_syntax.specs.Tree as tree
use Rattle.aql_syntax.specs.Laws.View.{tree_row-vec}
use Rattle.aql_syntax.proofs.build.row.Goals as goal

pub returns : goal.returns
returns c = ap (tree.op Strict.tuple) (tree_row-vec c.args.items)
