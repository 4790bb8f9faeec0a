use Rattle.std.proofs.Common.{ap}
use Rattle.aql_value.specs.Strict.{Strict}
use Rattle.aql_syntax.specs.Tree as tree
use Rattle.aql_syntax.specs.View.{tree_of}
use Rattle.aql_syntax.specs.Laws.View.{tree_row-vec}
use Rattle.aql_syntax.proofs.build.subscript.Goals as goal

pub returns : goal.returns
returns c = ap (λ (es : tree.Trees). tree.op Strict.sub (tree.tree (tree_of c.args.array.value) es)) (tree_row-vec c.args.at)
