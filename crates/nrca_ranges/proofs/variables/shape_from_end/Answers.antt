use Rattle.std.proofs.Common.{◌≡◌, ◌-◌, length, sym, subst, ◌∙◌, arith}
use Rattle.std.specs.Prelude.{IfOk}
use Rattle.nrca_ranges.specs.Shapes.{bounds_of}
use Rattle.nrca_ranges.specs.Laws.Views.{bounds_of-Unknown}
use Rattle.nrca_ranges.proofs.Entries.{shape-from-end, shape-before-end}
use Rattle.nrca_ranges.proofs.variables.shape_from_end.Goals as goal

pub returns-then-i-shapes : goal.returns-then-i-shapes
returns-then-i-shapes c =
    subst (λ b. IfOk c.copy.result (λ s. bounds_of s ≡ b)) (shape-from-end c.args.shapes.now c.args.i (length c.args.shapes.now - 1 - c.args.i) c.index-shapes-shapes.result (omega (arith, c.if-i-shapes.true)) (omega arith) c.index-shapes-shapes.is) c.copy.ensures

pub returns-else-i-shapes : goal.returns-else-i-shapes
returns-else-i-shapes c = bounds_of-Unknown ∙ sym (shape-before-end c.args.shapes.now c.args.i (omega (arith, c.if-i-shapes.false)))
