use Rattle.std.proofs.Common.{◌∙◌, arith}
use Rattle.nrca_ranges.specs.Laws.Entered.{shaped-there, shaped-missing}
use Rattle.nrca_ranges.proofs.positions.GlobalShapes.has.Goals as goal
use Rattle.nrca_ranges.proofs.positions.GlobalShapes.has.Goals.{else-n-ge1-via-then-n-ge1+else-n-len, else-n-ge1-via-else-n-ge1}

pub returns-then-n-len : goal.returns-then-n-len
returns-then-n-len c =
    c.is_some.ensures ∙ shaped-there c.args.self.now.shapes.items c.args.n c.index.result.now (omega arith) (omega arith) c.index.ensures

pub returns-else-n-ge1 : goal.returns-else-n-ge1
returns-else-n-ge1 c =
    shaped-missing c.args.self.now.shapes.items c.args.n
    (λ l. elim c.else-n-ge1.branch [ else-n-ge1-via-then-n-ge1+else-n-len w ↦ omega arith | else-n-ge1-via-else-n-ge1 w ↦ omega arith ])
