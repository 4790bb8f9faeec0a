use Rattle.std.proofs.Common.{◌≡◌, ap, sym, subst, ◌∙◌, arith}
use Rattle.std.specs.Prelude.{IfOk}
use Rattle.nrca_ranges.specs.Shapes.{bounds_of}
use Rattle.nrca_ranges.specs.Transfer.{kept}
use Rattle.nrca_ranges.specs.Laws.Views.{bounds_of-Unknown}
use Rattle.nrca_ranges.proofs.Entries.{first-there, first-absent}
use Rattle.nrca_ranges.proofs.variables.keep_first.Goals as goal

pub returns-then-told-gt0 : goal.returns-then-told-gt0
returns-then-told-gt0 c = subst (λ b. IfOk c.keep.result (λ s. bounds_of s ≡ kept b)) (sym (first-there c.args.told.now c.index-told-0.result (omega (arith, c.if-told-gt0.true)))) c.keep.ensures

pub returns-else-told-gt0 : goal.returns-else-told-gt0
returns-else-told-gt0 c = bounds_of-Unknown ∙ ap (λ b. kept b) (sym (first-absent c.args.told.now (omega (arith, c.if-told-gt0.false))))
