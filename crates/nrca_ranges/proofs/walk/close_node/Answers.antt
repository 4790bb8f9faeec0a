use Rattle.std.proofs.Common.{[], ◌∷◌, ◌++◌, ap, sym, take, ◌∙◌}
use Rattle.std.proofs.lemmas.List.{take-map, drop-map, map-append}
use Rattle.nrca_term.specs.Term.{parts_of}
use Rattle.nrca_term.specs.View.{term_of}
use Rattle.nrca_ranges.specs.Shapes.{ranges_below}
use Rattle.nrca_ranges.specs.Walk.{facts_below, summary, summary_of, told_each, summaries}
use Rattle.nrca_ranges.proofs.walk.close_node.Goals as goal

pub node_told-requires : goal.node_told-requires
node_told-requires c = record {
  parts =
      ap told_each c.in_ok-parts.ensures.tail ∙ sym (drop-map summary_of c.args.base c.args.progress.now.told.items) ∙ c.requires.parts.1
      ∙ ap (λ l. summaries (ranges_below c.args.ctx.now c.args.progress.now.variables.items) (facts_below c.args.ctx.now l c.args.depth) (term_of c.args.term.now) 0 (parts_of (term_of c.args.term.now))) (sym c.as_slice.ensures.value)
      ∙ ap (λ l. summaries (ranges_below c.args.ctx.now l) (facts_below c.args.ctx.now c.as_slice.result.now c.args.depth) (term_of c.args.term.now) 0 (parts_of (term_of c.args.term.now))) (sym c.as_slice-2.ensures.value);
}

pub returns-clause-told : goal.returns-clause-told
returns-clause-told c =
    ap told_each c.in_ok-push.ensures.items ∙ map-append summary_of c.split_off.new.self.items (c.in_ok-told.told ∷ [])
    ∙ ap (λ l. told_each l ++ summary_of c.in_ok-told.told ∷ []) c.in_ok-parts.ensures.items
    ∙ ap (λ l. l ++ summary_of c.in_ok-told.told ∷ []) (sym (take-map summary_of c.args.base c.args.progress.now.told.items))
    ∙ ap (λ s. take c.args.base (told_each c.args.progress.now.told.items) ++ s ∷ [])
    (c.in_ok-told.ensures ∙ ap (λ l. summary (ranges_below c.args.ctx.now c.as_slice-2.result.now) (facts_below c.args.ctx.now l c.args.depth) (term_of c.args.term.now)) c.as_slice.ensures.value
    ∙ ap (λ l. summary (ranges_below c.args.ctx.now l) (facts_below c.args.ctx.now c.args.progress.now.facts.items c.args.depth) (term_of c.args.term.now)) c.as_slice-2.ensures.value)
