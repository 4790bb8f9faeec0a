-- The arms whose lists are inside a tree: what is measured of the list is measured of the tree.
use Rattle.std.proofs.Common.{ap, ◌∙◌, arith}
use Rattle.aql_syntax.specs.View.{tree_of, trees_of, quals_of}
use Rattle.aql_syntax.specs.Size.{size, levels, sizes, greatest, quals_sizes, quals_greatest, quals_patterns}
use Rattle.aql_syntax.specs.Laws.Measuring.{size-Comp, levels-Comp, size-Literal, levels-Literal, size-Sub, levels-Sub}
use Rattle.aql_syntax.proofs.walk.+measure.Goals as goal

pub measure-measure_quals-requires : goal.measure-measure_quals-requires
measure-measure_quals-requires g t c =
    let e = ap (λ x. levels (tree_of x) (g.M.Macros.extents c.args.macros.now)) c.in-Comp.is ∙ levels-Comp c.in-Comp.head c.in-Comp.quals (g.M.Macros.extents c.args.macros.now) in
    let f = ap (λ l. quals_greatest (quals_of l) (g.M.Macros.extents c.args.macros.now)) c.deref-in-Comp.ensures.value in
    λ κs h. (omega (arith, e, f, c.decreases), h)

pub measure-measure_all-requires-in-Literal-2 : goal.measure-measure_all-requires-in-Literal-2
measure-measure_all-requires-in-Literal-2 g t c =
    let e = ap (λ x. levels (tree_of x) (g.M.Macros.extents c.args.macros.now)) c.in-Literal.is ∙ levels-Literal c.in-Literal.dims c.in-Literal.cells (g.M.Macros.extents c.args.macros.now) in
    let f = ap (λ l. greatest (trees_of l) (g.M.Macros.extents c.args.macros.now)) c.deref-in-Literal-2.ensures.value in
    λ κs h. (omega (arith, e, f, c.decreases), h)

pub measure-measure_all-requires-in-Sub : goal.measure-measure_all-requires-in-Sub
measure-measure_all-requires-in-Sub g t c =
    let e = ap (λ x. levels (tree_of x) (g.M.Macros.extents c.args.macros.now)) c.in-Sub.is ∙ levels-Sub c.in-Sub.array c.in-Sub.at (g.M.Macros.extents c.args.macros.now) in
    let f = ap (λ l. greatest (trees_of l) (g.M.Macros.extents c.args.macros.now)) c.deref-in-Sub-2.ensures.value in
    λ κs h. (omega (arith, e, f, c.decreases), h)

pub measure-returns-in-Comp-clause-size : goal.measure-returns-in-Comp-clause-size
measure-returns-in-Comp-clause-size g t c =
    let e = ap (λ x. size (tree_of x) (g.M.Macros.extents c.args.macros.now)) c.in-Comp.is ∙ size-Comp c.in-Comp.head c.in-Comp.quals (g.M.Macros.extents c.args.macros.now) in
    let f = ap (λ l. quals_sizes (quals_of l) (g.M.Macros.extents c.args.macros.now)) c.deref-in-Comp.ensures.value in
    let g = ap (λ x. size (tree_of x) (g.M.Macros.extents c.args.macros.now)) c.deref-in-Comp-2.ensures in
    let h = ap (λ l. quals_patterns (quals_of l)) c.deref-in-Comp-3.ensures.value in
    omega (arith, e, f, g, h)

pub measure-returns-in-Comp-clause-levels : goal.measure-returns-in-Comp-clause-levels
measure-returns-in-Comp-clause-levels g t c =
    let e = ap (λ x. levels (tree_of x) (g.M.Macros.extents c.args.macros.now)) c.in-Comp.is ∙ levels-Comp c.in-Comp.head c.in-Comp.quals (g.M.Macros.extents c.args.macros.now) in
    let f = ap (λ l. quals_greatest (quals_of l) (g.M.Macros.extents c.args.macros.now)) c.deref-in-Comp.ensures.value in
    let g = ap (λ x. levels (tree_of x) (g.M.Macros.extents c.args.macros.now)) c.deref-in-Comp-2.ensures in
    let h = ap (λ l. quals_patterns (quals_of l)) c.deref-in-Comp-3.ensures.value in
    omega (arith, e, f, g, h)

pub measure-returns-in-Literal-clause-size : goal.measure-returns-in-Literal-clause-size
measure-returns-in-Literal-clause-size g t c =
    let e = ap (λ x. size (tree_of x) (g.M.Macros.extents c.args.macros.now)) c.in-Literal.is ∙ size-Literal c.in-Literal.dims c.in-Literal.cells (g.M.Macros.extents c.args.macros.now) in
    let f = ap (λ l. sizes (trees_of l) (g.M.Macros.extents c.args.macros.now)) c.deref-in-Literal.ensures.value in
    let g = ap (λ l. sizes (trees_of l) (g.M.Macros.extents c.args.macros.now)) c.deref-in-Literal-2.ensures.value in
    omega (arith, e, f, g)

pub measure-returns-in-Literal-clause-levels : goal.measure-returns-in-Literal-clause-levels
measure-returns-in-Literal-clause-levels g t c =
    let e = ap (λ x. levels (tree_of x) (g.M.Macros.extents c.args.macros.now)) c.in-Literal.is ∙ levels-Literal c.in-Literal.dims c.in-Literal.cells (g.M.Macros.extents c.args.macros.now) in
    let f = ap (λ l. greatest (trees_of l) (g.M.Macros.extents c.args.macros.now)) c.deref-in-Literal.ensures.value in
    let g = ap (λ l. greatest (trees_of l) (g.M.Macros.extents c.args.macros.now)) c.deref-in-Literal-2.ensures.value in
    omega (arith, e, f, g)

pub measure-returns-in-Sub-clause-size : goal.measure-returns-in-Sub-clause-size
measure-returns-in-Sub-clause-size g t c =
    let e = ap (λ x. size (tree_of x) (g.M.Macros.extents c.args.macros.now)) c.in-Sub.is ∙ size-Sub c.in-Sub.array c.in-Sub.at (g.M.Macros.extents c.args.macros.now) in
    let f = ap (λ x. size (tree_of x) (g.M.Macros.extents c.args.macros.now)) c.deref-in-Sub.ensures in
    let g = ap (λ l. sizes (trees_of l) (g.M.Macros.extents c.args.macros.now)) c.deref-in-Sub-2.ensures.value in
    omega (arith, e, f, g)

pub measure-returns-in-Sub-clause-levels : goal.measure-returns-in-Sub-clause-levels
measure-returns-in-Sub-clause-levels g t c =
    let e = ap (λ x. levels (tree_of x) (g.M.Macros.extents c.args.macros.now)) c.in-Sub.is ∙ levels-Sub c.in-Sub.array c.in-Sub.at (g.M.Macros.extents c.args.macros.now) in
    let f = ap (λ x. levels (tree_of x) (g.M.Macros.extents c.args.macros.now)) c.deref-in-Sub.ensures in
    let g = ap (λ l. greatest (trees_of l) (g.M.Macros.extents c.args.macros.now)) c.deref-in-Sub-2.ensures.value in
    omega (arith, e, f, g)
