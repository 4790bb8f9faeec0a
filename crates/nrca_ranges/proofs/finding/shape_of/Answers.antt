use Rattle.std.proofs.Common.{ap, ◌∙◌}
use Rattle.nrca_term.specs.View.{term_of}
use Rattle.nrca_ranges.specs.Bounds.{unknown}
use Rattle.nrca_ranges.specs.Shapes.{bounds_of}
use Rattle.nrca_ranges.specs.Transfer.{by_span}
use Rattle.nrca_ranges.specs.Laws.Sound.{span-is}
use Rattle.nrca_ranges.proofs.finding.shape_of.Goals as goal

pub returns-else-is_small-clause-holds : goal.returns-else-is_small-clause-holds
returns-else-is_small-clause-holds c =
    span-is c.args.ctx.now (term_of c.args.term.now) (bounds_of c.span_shape.result) (c.span_shape.ensures ∙ ap (λ s. by_span s unknown) c.span.ensures.exact)
