use Rattle.std.proofs.Common.{◌++◌, ap, sym, map, take, drop, ◌∙◌, arith}
use Rattle.std.proofs.lemmas.List.{drop-map}
use Rattle.nrca_term.specs.Term.{form_of, parts_of, child_of}
use Rattle.nrca_term.specs.View.{term_of}
use Rattle.nrca_term.specs.Facts.{part_facts}
use Rattle.nrca_term.specs.Laws.Entering.{child-counted}
use Rattle.nrca_term.specs.Laws.Measure.{weight_of-child}
use Rattle.nrca_term.specs.Laws.WellFormed.{well_formed-Core}
use Rattle.nrca_ranges.specs.Shapes.{bounds_each, ranges_below}
use Rattle.nrca_ranges.specs.Transfer.{own_bounds}
use Rattle.nrca_ranges.specs.Walk.{facts_below, summary_of, told_each, part_summary, summaries_there, own_told}
use Rattle.nrca_ranges.specs.Laws.Entered.{part-small}
use Rattle.nrca_ranges.specs.Laws.Walk.{below-same, ranges-same, taken-back, shapes-back}
use Rattle.nrca_ranges.specs.Laws.Summaries.{told-none, told-more, keeps-none, keeps-both, holds-first, holds-parts, closes-node, rest-whole, told-part}
use Rattle.nrca_ranges.proofs.walk.+walk.Goals as goal

pub walk-loop-i-init : goal.walk-loop-i-init
walk-loop-i-init t c = record {
  back = keeps-none c.args.progress.now;
  told = told-none (told_each c.args.progress.now.told.items) (summaries_there c.args.ctx.now c.args.depth c.args.term.now c.args.progress.now);
}

pub walk-walk_part-requires : goal.walk-walk_part-requires
walk-walk_part-requires t c = (
  omega (arith, c.decreases),
  (
    c.requires.inside,
    holds-first c.args.ctx.now c.args.depth c.len-base.result c.loop-i.i c.args.term.now c.args.progress.now c.loop-i.progress (omega (arith, c.len-base.ensures)) c.loop-i.invariant.back c.loop-i.invariant.told,
  ),
)

pub walk-loop-i-preserved : goal.walk-loop-i-preserved
walk-loop-i-preserved t c =
    let p = c.args.progress.now in
    let u = term_of c.args.term.now in
    let ps = parts_of u in
    record {
      back = keeps-both p c.loop-i.progress c.walk_part.new.progress c.loop-i.invariant.back c.in_ok-walk_part.ensures.back;
      told =
          told-more (ranges_below c.args.ctx.now p.variables.items) (facts_below c.args.ctx.now p.facts.items c.args.depth) u c.loop-i.i ps (told_each p.told.items) (told_each c.loop-i.progress.told.items) (told_each c.walk_part.new.progress.told.items)
          (c.in_ok-walk_part.ensures.told
          ∙ ap (λ f. told_each c.loop-i.progress.told.items ++ part_summary (ranges_below c.args.ctx.now c.loop-i.progress.variables.items) f u c.loop-i.i (child_of ps c.loop-i.i)) (below-same c.args.ctx.now c.loop-i.progress.facts.items p.facts.items c.args.depth c.loop-i.invariant.back.0)
          ∙ ap (λ g. told_each c.loop-i.progress.told.items ++ part_summary g (facts_below c.args.ctx.now p.facts.items c.args.depth) u c.loop-i.i (child_of ps c.loop-i.i)) (ranges-same c.args.ctx.now c.loop-i.progress.variables.items p.variables.items c.loop-i.invariant.back.1))
          c.loop-i.invariant.told;
    }

pub walk-close_node-requires : goal.walk-close_node-requires
walk-close_node-requires t c = record {
  parts =
      holds-parts c.args.ctx.now c.args.depth c.len-base.result c.loop-i.i c.args.term.now c.args.progress.now c.loop-i.progress (omega (arith, c.len-base.ensures)) (omega (arith, c.loop-i-test.false, c.loop-i.auto.i-end, c.parts-i-end.ensures)) c.loop-i.invariant.back
      c.loop-i.invariant.told;
}

pub walk-returns-clause-back : goal.walk-returns-clause-back
walk-returns-clause-back t c = keeps-both c.args.progress.now c.loop-i.progress c.close_node.new.progress c.loop-i.invariant.back c.close_node.ensures.back

pub walk-returns-clause-told : goal.walk-returns-clause-told
walk-returns-clause-told t c =
    closes-node c.args.ctx.now c.args.depth c.len-base.result c.args.term.now c.args.progress.now c.loop-i.progress c.close_node.new.progress (take c.loop-i.i (summaries_there c.args.ctx.now c.args.depth c.args.term.now c.args.progress.now)) (omega (arith, c.len-base.ensures))
    c.loop-i.invariant.back c.loop-i.invariant.told c.in_ok-close_node.ensures.told

pub walk_part-binders-requires : goal.walk_part-binders-requires
walk_part-binders-requires t c = child-counted (parts_of (term_of c.args.term.now)) c.args.i (term_of c.in-Some.part.now) (sym c.in-Some.ensures)

pub walk_part-walk-requires : goal.walk_part-walk-requires
walk_part-walk-requires t c = (
  omega (arith, c.decreases, weight_of-child (term_of c.args.term.now) c.args.i (term_of c.in-Some.part.now) (sym c.in-Some.ensures)),
  part-small c.args.depth c.binders.result (term_of c.args.term.now) c.args.i (term_of c.in-Some.part.now) (well_formed-Core c.args.term.now) (sym c.in-Some.ensures) c.requires.inside c.binders.ensures.number,
)

pub walk_part-returns-in_ok-walk-clause-back : goal.walk_part-returns-in_ok-walk-clause-back
walk_part-returns-in_ok-walk-clause-back t c = (
  taken-back c.args.progress.now.facts.items c.walk.new.progress.facts.items c.truncate.new.self.items (part_facts c.args.depth (form_of (term_of c.args.term.now)) (parts_of (term_of c.args.term.now)) c.args.i) c.len-before.result (omega (arith, c.len-before.ensures))
      (c.in_ok-walk.ensures.back.0 ∙ c.in_ok-add_facts.ensures) c.truncate.ensures.items,
  shapes-back c.args.progress.now.variables.items c.walk.new.progress.variables.items c.truncate-in-Some.new.self.items _ c.len-outside.result (omega (arith, c.len-outside.ensures))
      (c.in_ok-walk.ensures.back.1 ∙ c.in_ok-add_variables.ensures) c.truncate-in-Some.ensures.items,
)

pub walk_part-returns-in_ok-walk-clause-told : goal.walk_part-returns-in_ok-walk-clause-told
walk_part-returns-in_ok-walk-clause-told t c =
    let p = c.args.progress.now in
    c.in_ok-walk.ensures.told
    ∙ ap (λ l. told_each p.told.items ++ l)
    (told-part c.args.ctx.now c.args.depth c.binders.result c.args.i c.args.term.now c.in-Some.part.now p c.add_facts.new.facts.items c.add_variables.new.shapes.items (drop c.args.base p.told.items) c.in_ok-add_facts.ensures
    (c.in_ok-add_variables.ensures ∙ ap (λ l. bounds_each p.variables.items ++ own_told c.form.result c.args.i l) (rest-whole p.told.items c.deref.result.now c.args.base c.deref.ensures.value c.requires.first.0)
    ∙ ap (λ f. bounds_each p.variables.items ++ own_bounds f c.args.i (map (λ s. s.shape) (told_each (drop c.args.base p.told.items)))) c.form.ensures)
    (sym (drop-map summary_of c.args.base p.told.items) ∙ c.requires.first.1) c.binders.ensures.number (sym c.in-Some.ensures))
