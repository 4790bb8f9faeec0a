use Rattle.std.proofs.Common.{ap, ◌∙◌}
use Rattle.aql_value.specs.Strict.{Strict}
use Rattle.aql_syntax.specs.Tree as tree
use Rattle.aql_syntax.specs.Tree.{Trees, count_trees, append}
use Rattle.aql_syntax.specs.View.{tree_row, trees_of}
use Rattle.aql_syntax.specs.declared.ast.Expr.TheBlock.{hidden-the_row-Expr-0}
use Rattle.aql_syntax.specs.Laws.View.{tree_row-vec}
use Rattle.aql_syntax.proofs.build.literal.Goals as goal

pub returns : goal.returns
returns c =
    ap (λ (ds : Trees). tree.op (Strict.literal (count_trees ds)) (append ds (tree_row (hidden-the_row-Expr-0 c.args.cells)))) (tree_row-vec c.args.dims)
    ∙ ap (λ (cs : Trees). tree.op (Strict.literal (count_trees (trees_of c.args.dims.items))) (append (trees_of c.args.dims.items) cs)) (tree_row-vec c.args.cells)
