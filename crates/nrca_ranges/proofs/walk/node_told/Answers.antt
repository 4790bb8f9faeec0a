use Rattle.std.proofs.Common.{ap, sym, ◌∙◌}
use Rattle.nrca_term.specs.Term.{parts_of}
use Rattle.nrca_term.specs.Firm.{number_of}
use Rattle.nrca_term.specs.View.{term_of}
use Rattle.nrca_term.specs.Laws.AsVariant.{as-Arith}
use Rattle.nrca_ranges.specs.Shapes.{ranges_below}
use Rattle.nrca_ranges.specs.Walk.{facts_below, summary, summaries}
use Rattle.nrca_ranges.specs.Laws.Summaries.{sides-told, arith-summary}
use Rattle.nrca_ranges.proofs.walk.node_told.Goals as goal

pub arith_told-requires-clause-left : goal.arith_told-requires-clause-left
arith_told-requires-clause-left c =
    let gs = ranges_below c.args.ctx.now c.args.variables.now in
    let f = facts_below c.args.ctx.now c.args.own.now c.args.depth in
    (sides-told gs f c.in-Arith.op (term_of c.in-Arith.field-1.value) (term_of c.in-Arith.b.value) c.args.parts.items c.index.result.now c.index-in-Arith.result.now
    (c.requires.parts ∙ ap (λ t. summaries gs f t 0 (parts_of t)) (as-Arith c.args.term.now c.in-Arith.op c.in-Arith.field-1 c.in-Arith.b c.in-Arith.is)) c.index.ensures c.index-in-Arith.ensures).0.ordered

pub arith_told-requires-clause-right : goal.arith_told-requires-clause-right
arith_told-requires-clause-right c =
    let gs = ranges_below c.args.ctx.now c.args.variables.now in
    let f = facts_below c.args.ctx.now c.args.own.now c.args.depth in
    (sides-told gs f c.in-Arith.op (term_of c.in-Arith.field-1.value) (term_of c.in-Arith.b.value) c.args.parts.items c.index.result.now c.index-in-Arith.result.now
    (c.requires.parts ∙ ap (λ t. summaries gs f t 0 (parts_of t)) (as-Arith c.args.term.now c.in-Arith.op c.in-Arith.field-1 c.in-Arith.b c.in-Arith.is)) c.index.ensures c.index-in-Arith.ensures).1.ordered

pub returns-in-Arith : goal.returns-in-Arith
returns-in-Arith c =
    let gs = ranges_below c.args.ctx.now c.args.variables.now in
    let f = facts_below c.args.ctx.now c.args.own.now c.args.depth in
    arith-summary gs f c.in-Arith.op (term_of c.in-Arith.field-1.value) (term_of c.in-Arith.b.value) c.args.parts.items c.index.result.now c.index-in-Arith.result.now c.number.result c.arith_told.result
    (c.requires.parts ∙ ap (λ t. summaries gs f t 0 (parts_of t)) (as-Arith c.args.term.now c.in-Arith.op c.in-Arith.field-1 c.in-Arith.b c.in-Arith.is)) c.index.ensures c.index-in-Arith.ensures (c.number.ensures.which ∙ ap (λ t. number_of (term_of t)) c.deref.ensures) c.arith_told.ensures
    ∙ ap (summary gs f) (sym (as-Arith c.args.term.now c.in-Arith.op c.in-Arith.field-1 c.in-Arith.b c.in-Arith.is))
