use Rattle.std.proofs.Common.{◌-◌, ◌^◌, min, ap, ◌∙◌}
use Rattle.aql_syntax.specs.View.{tree_of}
use Rattle.aql_syntax.specs.Size.{size, levels}
use Rattle.aql_syntax.specs.Laws.Kept.{size-kept, levels-kept}
use Rattle.aql_script.proofs.extents.Extents.measure.Goals as goal

pub returns-clause-size : goal.returns-clause-size
returns-clause-size c =
    λ ds e. c.measure.ensures.size ∙ ap (λ ms. min (size (tree_of c.args.e.now) ms) (2 ^ 64 - 1)) e ∙ size-kept (tree_of c.args.e.now) ds

pub returns-clause-levels : goal.returns-clause-levels
returns-clause-levels c =
    λ ds e. c.measure.ensures.levels ∙ ap (λ ms. min (levels (tree_of c.args.e.now) ms) (2 ^ 64 - 1)) e ∙ levels-kept (tree_of c.args.e.now) ds
