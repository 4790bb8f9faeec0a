use Rattle.std.proofs.Common.{ap, sym, ◌∙◌}
use Rattle.nrca_term.specs.Firm.{variable_span}
use Rattle.nrca_ranges.specs.Context.{facts_in}
use Rattle.nrca_ranges.specs.Laws.Walk.{found-first, found-second}
use Rattle.nrca_ranges.proofs.walk.variable_below.Goals as goal

pub returns-then-is_some-clause-exact : goal.returns-then-is_some-clause-exact
returns-then-is_some-clause-exact c =
    found-first c.span_among-found.result c.args.depth c.args.i (facts_in c.args.ctx.now.facts.items) (facts_in c.args.own.now) (sym c.is_some.ensures ∙ c.if-is_some.true)
    (c.span_among-found.ensures.exact ∙ ap (λ l. variable_span c.args.depth c.args.i (facts_in l)) c.as_slice.ensures.value)

pub returns-else-is_some-clause-exact : goal.returns-else-is_some-clause-exact
returns-else-is_some-clause-exact c =
    found-second c.span_among-found.result c.span_among.result c.args.depth c.args.i (facts_in c.args.ctx.now.facts.items) (facts_in c.args.own.now) (sym c.is_some.ensures ∙ c.if-is_some.false)
    (c.span_among-found.ensures.exact ∙ ap (λ l. variable_span c.args.depth c.args.i (facts_in l)) c.as_slice.ensures.value) c.span_among.ensures.exact
