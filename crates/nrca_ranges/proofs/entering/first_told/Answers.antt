use Rattle.std.proofs.Common.{◌++◌, ap, sym, subst, ◌∙◌, arith}
use Rattle.nrca_term.specs.Term.{form_of, parts_of, child_of}
use Rattle.nrca_term.specs.View.{term_of}
use Rattle.nrca_term.specs.Laws.WellFormed.{well_formed-Core, binders-well_formed}
use Rattle.nrca_rule_laws.specs.Laws.Firms.{part-there}
use Rattle.nrca_ranges.specs.Shapes.{ranges_below}
use Rattle.nrca_ranges.specs.Walk.{facts_below, told_each, part_summary, HasFirst}
use Rattle.nrca_ranges.specs.declared.walk.Progress.{Progress}
use Rattle.nrca_ranges.specs.Laws.Walk.{below-same, ranges-same}
use Rattle.nrca_ranges.specs.Laws.Summaries.{told-more, keeps-both, has-first}
use Rattle.nrca_ranges.proofs.Entries.{own-none}
use Rattle.nrca_ranges.proofs.entering.first_told.Goals as goal
use Rattle.nrca_ranges.proofs.entering.first_told.Goals.{then-binders-gt0+else-loop-i-test, else-binders-gt0}

pub loop-i-preserved : goal.loop-i-preserved
loop-i-preserved c =
    let p : Progress = record { facts = c.new.result; variables = c.new-2.result; told = c.new-3.result } in
    let u = term_of c.args.parent.now in
    let ps = parts_of u in
    let d = c.args.ctx.now.depth in
    record {
      back = keeps-both p c.loop-i.progress c.walk_part.new.progress c.loop-i.invariant.back c.in_ok-walk_part.ensures.back;
      told =
          told-more (ranges_below c.args.ctx.now p.variables.items) (facts_below c.args.ctx.now p.facts.items d) u c.loop-i.i ps (told_each p.told.items) (told_each c.loop-i.progress.told.items) (told_each c.walk_part.new.progress.told.items)
          (c.in_ok-walk_part.ensures.told
          ∙ ap (λ f. told_each c.loop-i.progress.told.items ++ part_summary (ranges_below c.args.ctx.now c.loop-i.progress.variables.items) f u c.loop-i.i (child_of ps c.loop-i.i)) (below-same c.args.ctx.now c.loop-i.progress.facts.items p.facts.items d c.loop-i.invariant.back.0)
          ∙ ap (λ g. told_each c.loop-i.progress.told.items ++ part_summary g (facts_below c.args.ctx.now p.facts.items d) u c.loop-i.i (child_of ps c.loop-i.i)) (ranges-same c.args.ctx.now c.loop-i.progress.variables.items p.variables.items c.loop-i.invariant.back.1))
          c.loop-i.invariant.told;
    }

pub returns : goal.returns
returns c =
    let p : Progress = record { facts = c.new.result; variables = c.new-2.result; told = c.new-3.result } in
    let t = c.args.parent.now in
    elim c.if-binders-gt0.branch [
      | then-binders-gt0+else-loop-i-test w ↦
          subst (λ q. HasFirst c.args.ctx.now t c.args.part q.told.items) (sym w.progress-is)
          (has-first c.args.ctx.now t c.args.part w.loop-i.i p w.loop-i.progress c.new.ensures.items c.new-2.ensures.items c.new-3.ensures.items (omega (arith, w.loop-i-test.false, w.loop-i.auto.i-end)) w.loop-i.invariant.told)
      | else-binders-gt0 w ↦
          let u = part-there (parts_of (term_of t)) c.args.part c.requires.has in
          own-none (form_of (term_of t)) c.args.part _ _
          (omega (arith, w.if-binders-gt0.false, c.binders.ensures.number, binders-well_formed (term_of t) c.args.part u.0 (well_formed-Core t) u.1))
    ]
