use Rattle.std.proofs.Common.{◌||◌, ap, subst, ◌∙◌}
use Rattle.nrca_term.specs.View.{term_of, pure_form}
use Rattle.nrca_term.specs.Firm as pure
use Rattle.nrca_ranges.specs.Certain.{form_certain}
use Rattle.nrca_ranges.specs.Entered.{is_shaped}
use Rattle.nrca_ranges.specs.Shapes.{bounds_each, ranges_below}
use Rattle.nrca_ranges.specs.Transfer.{by_span, form_bounds}
use Rattle.nrca_ranges.specs.Spans.{span_of}
use Rattle.nrca_ranges.specs.Walk.{facts_below, told_each, IsGathered}
use Rattle.nrca_ranges.specs.Laws.Summaries.{are-told, summary-is}
use Rattle.nrca_ranges.specs.Laws.Walk.{node-told}
use Rattle.nrca_ranges.proofs.walk.other_told.Goals as goal

pub returns : goal.returns
returns c =
    let gs = ranges_below c.args.ctx.now c.args.variables.now in
    let f = facts_below c.args.ctx.now c.args.own.now c.args.depth in
    let t = term_of c.args.term.now in
    summary-is gs f t _
    (node-told gs f t _ c.gather_all-found.result c.in_ok-shapes.shapes.items c.form_sure-sure.result c.form_certain-fits.result c.requires.other
    (are-told gs f t c.wants_all.result c.gather_all-found.result (told_each c.args.parts.items) c.in_ok-shapes.shapes.items c.requires.parts (c.wants_all.ensures ∙ ap pure.wants_all c.form-form.ensures)
    (subst (λ l. IsGathered c.wants_all.result (told_each l) c.gather_all-found.result) c.as_slice.ensures.value c.gather_all-found.ensures) c.in_ok-shapes.ensures)
    (c.form_sure-sure.ensures ∙ ap (pure.form_sure (is_shaped gs.positions)) c.form-form.ensures)
    (c.form_certain-fits.ensures ∙ ap (λ l. form_certain (is_shaped gs.positions) (pure_form c.form-form.result) (bounds_each l)) c.as_slice-2.ensures.value
    ∙ ap (λ f. form_certain (is_shaped gs.positions) f (bounds_each c.in_ok-shapes.shapes.items)) c.form-form.ensures)
    c.both-firm.ensures (c.either-certain.ensures ∙ ap (λ y. c.both-firm.result || y) c.both.ensures) c.node_span-span.ensures.exact c.node_span-span.ensures.ordered
    (c.narrow_shape-shape.ensures ∙ ap (by_span (span_of c.node_span-span.result)) (c.in_ok-told.ensures ∙ ap (λ f. form_bounds gs f (bounds_each c.in_ok-shapes.shapes.items)) c.form-form.ensures)))
