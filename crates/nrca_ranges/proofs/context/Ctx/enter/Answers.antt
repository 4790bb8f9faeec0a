use Rattle.std.proofs.Common.{ap, ◌∙◌}
use Rattle.nrca_term.specs.Facts.{enter_facts}
use Rattle.nrca_term.specs.View.{term_of}
use Rattle.nrca_ranges.specs.Context.{context_of}
use Rattle.nrca_ranges.specs.Shapes.{ranges_of}
use Rattle.nrca_ranges.specs.Transfer.{enter_ranges}
use Rattle.nrca_ranges.specs.Laws.Sound.{allows-inside}
use Rattle.nrca_ranges.proofs.context.Ctx.enter.Goals as goal

pub returns-clause-allows : goal.returns-clause-allows
returns-clause-allows c =
    allows-inside c.args.self.now c.push.new.self c.args.parent.now c.args.part c.requires.has
    (c.in_ok-_mark.ensures.entered ∙ ap (λ x. enter_facts x (term_of c.args.parent.now) c.args.part) c.in_ok-inner.ensures.context)
    (c.in_ok-_mark.ensures.ranges ∙ ap (λ g. enter_ranges g (context_of c.in_ok-inner.inner) (term_of c.args.parent.now) c.args.part) c.in_ok-inner.ensures.ranges ∙ ap (λ x. enter_ranges (ranges_of c.args.self.now) x (term_of c.args.parent.now) c.args.part) c.in_ok-inner.ensures.context)
