use Rattle.std.proofs.Common.{◌≡◌, ◌∙◌, subst, arith}
use Rattle.std.specs.Prelude.{IfOk}
use Rattle.nrca_ranges.specs.Shapes.{bounds_of}
use Rattle.nrca_ranges.specs.Laws.Entered.{bounds-there, bounds-none, bounds-missing}
use Rattle.nrca_ranges.specs.Laws.Views.{bounds_of-Unknown}
use Rattle.nrca_ranges.proofs.positions.GlobalShapes.shape.Goals as goal
use Rattle.nrca_ranges.proofs.positions.GlobalShapes.shape.Goals.{else-n-ge1-via-then-n-ge1+else-n-len, else-n-ge1-via-else-n-ge1}

pub returns-in-Some : goal.returns-in-Some
returns-in-Some c =
    subst (λ b. IfOk c.copy.result (λ s. bounds_of s ≡ b)) (bounds-there c.args.self.now.shapes.items c.args.n c.index.result.now c.in-Some.shape (omega arith) (omega arith) c.index.ensures c.in-Some.is) c.copy.ensures

pub returns-in-None : goal.returns-in-None
returns-in-None c = bounds_of-Unknown ∙ bounds-none c.args.self.now.shapes.items c.args.n c.index.result.now (omega arith) (omega arith) c.index.ensures c.in-None.is

pub returns-else-n-ge1 : goal.returns-else-n-ge1
returns-else-n-ge1 c =
    bounds_of-Unknown
    ∙ bounds-missing c.args.self.now.shapes.items c.args.n
    (λ l. elim c.else-n-ge1.branch [ else-n-ge1-via-then-n-ge1+else-n-len w ↦ omega arith | else-n-ge1-via-else-n-ge1 w ↦ omega arith ])
