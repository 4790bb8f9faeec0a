use Rattle.std.proofs.Common.{rules, ◌≡◌, drop, Some, None, refl, sym, ap, subst, ◌∙◌, arith}
use Rattle.nrca_term.specs.Term.{parts_of}
use Rattle.nrca_term.specs.View.{term_of}
use Rattle.nrca_term.specs.Facts.{enter_facts}
use Rattle.nrca_term.specs.Laws.Entering.{child-there}
use Rattle.nrca_term.specs.Laws.Measure.{weight_of-child}
use Rattle.nrca_term.specs.Laws.WellFormed.{well_formed-Core}
use Rattle.nrca_ranges.specs.Context.{context_of, at_mark, ranges_at_mark, IsSmallTerm}
use Rattle.nrca_motion.specs.Fitting.{TellsNode}
use Rattle.nrca_motion.specs.Found.{QuietParts, TellsSite}
use Rattle.nrca_motion.specs.Laws.Found.{parts-first, parts-more, everywhere, site-here, site-above, behind-onward, found-none, quiet-inside, behind-inside, entered-ranges, told-as, behind-as}
use Rattle.nrca_motion.proofs.search.+find.Goals.{find_in_parts-in-Some+in_ok-mark+in_ok-found+in_default-found, find_in_parts-in_default}
use Rattle.nrca_ranges.specs.Shapes.{ranges_of}
use Rattle.nrca_ranges.specs.Transfer.{enter_ranges}
use Rattle.nrca_ranges.specs.Laws.Entered.{entered-inside}
use Rattle.nrca_motion.proofs.search.+find.Goals as goal

pub find-returns-in-Some-clause-found : goal.find-returns-in-Some-clause-found
find-returns-in-Some-clause-found t c =
    site-here (ranges_of c.args.ctx.now) (context_of c.args.ctx.now) (term_of c.args.term.now) (record { way = c.new-way.result; fit = c.in-Some.fit }) c.new-way.ensures.items
    (subst (TellsNode c.args.ctx.now (term_of c.args.term.now)) c.in-Some.is c.in_ok-fit.ensures)

pub find_in_parts-loop-i-init : goal.find_in_parts-loop-i-init
find_in_parts-loop-i-init t c = record {
  back = refl;
  ranges = refl;
  globals = refl;
  parts = subst (QuietParts (ranges_of c.args.ctx.now) (context_of c.args.ctx.now) (term_of c.args.term.now)) (sym c.first_part-first.ensures) (parts-first (ranges_of c.args.ctx.now) (context_of c.args.ctx.now) (term_of c.args.term.now) (drop c.args.at c.args.from.now) c.requires.behind);
}

pub find_in_parts-push-requires-clause-inside : goal.find_in_parts-push-requires-clause-inside
find_in_parts-push-requires-clause-inside t c = subst (λ n. IsSmallTerm n (term_of c.args.term.now)) (sym (ap (λ x. x.depth) c.loop-i.invariant.back)) c.requires.inside

pub find_in_parts-returns-in_err-mark-clause-globals : goal.find_in_parts-returns-in_err-mark-clause-globals
find_in_parts-returns-in_err-mark-clause-globals t c = c.push.ensures.globals ∙ c.loop-i.invariant.globals

pub find_in_parts-find-requires : goal.find_in_parts-find-requires
find_in_parts-find-requires t c = (
  omega (arith, c.decreases, weight_of-child (term_of c.args.term.now) c.loop-i.i (term_of c.in-Some.part.now) (sym c.in-Some.ensures)),
  (
    c.rest-onward.ensures.within,
    (
      entered-inside c.push.new.self.depth c.args.ctx.now.depth (context_of c.args.ctx.now) (context_of c.loop-i.ctx) (context_of c.push.new.self) (term_of c.args.term.now) c.loop-i.i (term_of c.in-Some.part.now)
          (well_formed-Core c.args.term.now) (sym c.in-Some.ensures) c.requires.inside c.in_ok-mark.ensures.entered c.loop-i.invariant.back refl refl,
      behind-as (enter_ranges (ranges_of c.args.ctx.now) (context_of c.args.ctx.now) (term_of c.args.term.now) c.loop-i.i) (ranges_of c.push.new.self) (enter_facts (context_of c.args.ctx.now) (term_of c.args.term.now) c.loop-i.i) (context_of c.push.new.self) (term_of c.in-Some.part.now) (drop c.rest-onward.result c.args.from.now)
          (entered-ranges c.args.ctx.now c.loop-i.ctx c.push.new.self c.args.term.now c.loop-i.i c.in_ok-mark.ensures.ranges c.loop-i.invariant.ranges c.loop-i.invariant.back)
          (c.in_ok-mark.ensures.entered ∙ ap (λ x. enter_facts x (term_of c.args.term.now) c.loop-i.i) c.loop-i.invariant.back)
          (behind-inside (ranges_of c.args.ctx.now) (context_of c.args.ctx.now) (enter_facts (context_of c.args.ctx.now) (term_of c.args.term.now) c.loop-i.i) (term_of c.args.term.now) (term_of c.in-Some.part.now) c.loop-i.i (drop c.rest-onward.result c.args.from.now)
          (behind-onward (ranges_of c.args.ctx.now) (context_of c.args.ctx.now) (term_of c.args.term.now) (term_of c.in-Some.part.now) c.args.from.now c.args.at c.loop-i.i c.first_part-first.result c.rest-onward.result c.requires.behind c.first_part-first.ensures (sym c.in-Some.ensures) c.rest-onward.ensures.which)),
    ),
  ),
)

pub find_in_parts-returns-in_err-found-clause-globals : goal.find_in_parts-returns-in_err-found-clause-globals
find_in_parts-returns-in_err-found-clause-globals t c = c.find.ensures.globals ∙ c.push.ensures.globals ∙ c.loop-i.invariant.globals

pub find_in_parts-returns-in_err-above-clause-globals : goal.find_in_parts-returns-in_err-above-clause-globals
find_in_parts-returns-in_err-above-clause-globals t c = c.take_back.ensures.globals ∙ c.find.ensures.globals ∙ c.push.ensures.globals ∙ c.loop-i.invariant.globals

pub find_in_parts-returns-in-Some-found-clause-back : goal.find_in_parts-returns-in-Some-found-clause-back
find_in_parts-returns-in-Some-found-clause-back t c = c.take_back.ensures.back ∙ ap (at_mark c.in_ok-mark.mark) c.in_ok-found.ensures.back ∙ c.in_ok-mark.ensures.back ∙ c.loop-i.invariant.back

pub find_in_parts-returns-in-Some-found-clause-ranges : goal.find_in_parts-returns-in-Some-found-clause-ranges
find_in_parts-returns-in-Some-found-clause-ranges t c = c.take_back.ensures.ranges ∙ ap (ranges_at_mark c.in_ok-mark.mark) c.in_ok-found.ensures.ranges ∙ c.in_ok-mark.ensures.values ∙ c.loop-i.invariant.ranges

pub find_in_parts-returns-in-Some-found-clause-globals : goal.find_in_parts-returns-in-Some-found-clause-globals
find_in_parts-returns-in-Some-found-clause-globals t c = c.take_back.ensures.globals ∙ c.find.ensures.globals ∙ c.push.ensures.globals ∙ c.loop-i.invariant.globals

pub find_in_parts-returns-in-Some-found-clause-found : goal.find_in_parts-returns-in-Some-found-clause-found
find_in_parts-returns-in-Some-found-clause-found t c =
    site-above (ranges_of c.args.ctx.now) (context_of c.args.ctx.now) (term_of c.args.term.now) c.loop-i.i (term_of c.in-Some.part.now) c.in-Some-found.site c.in_ok-above.above c.loop-i.invariant.parts (sym c.in-Some.ensures)
    (told-as (enter_ranges (ranges_of c.args.ctx.now) (context_of c.args.ctx.now) (term_of c.args.term.now) c.loop-i.i) (ranges_of c.push.new.self) (enter_facts (context_of c.args.ctx.now) (term_of c.args.term.now) c.loop-i.i) (context_of c.push.new.self) (term_of c.in-Some.part.now) (Some c.in-Some-found.site)
    (entered-ranges c.args.ctx.now c.loop-i.ctx c.push.new.self c.args.term.now c.loop-i.i c.in_ok-mark.ensures.ranges c.loop-i.invariant.ranges c.loop-i.invariant.back)
    (c.in_ok-mark.ensures.entered ∙ ap (λ x. enter_facts x (term_of c.args.term.now) c.loop-i.i) c.loop-i.invariant.back)
    (subst (TellsSite c.push.new.self (term_of c.in-Some.part.now)) c.in-Some-found.is c.in_ok-found.ensures.found))
    c.in_ok-above.ensures

pub find_in_parts-loop-i-preserved : goal.find_in_parts-loop-i-preserved
find_in_parts-loop-i-preserved t c =
    elim c.match-part.branch [
      | find_in_parts-in-Some+in_ok-mark+in_ok-found+in_default-found w ↦ record {
        back = ap context_of w.ctx-is ∙ w.take_back.ensures.back ∙ ap (at_mark w.in_ok-mark.mark) w.in_ok-found.ensures.back ∙ w.in_ok-mark.ensures.back ∙ c.loop-i.invariant.back;
        ranges = ap ranges_of w.ctx-is ∙ w.take_back.ensures.ranges ∙ ap (ranges_at_mark w.in_ok-mark.mark) w.in_ok-found.ensures.ranges ∙ w.in_ok-mark.ensures.values ∙ c.loop-i.invariant.ranges;
        globals = ap (λ x. x.globals) w.ctx-is ∙ w.take_back.ensures.globals ∙ w.find.ensures.globals ∙ w.push.ensures.globals ∙ c.loop-i.invariant.globals;
        parts =
            let e : w.in_ok-found.found ≡ None = search rules in
            parts-more (ranges_of c.args.ctx.now) (context_of c.args.ctx.now) (term_of c.args.term.now) c.loop-i.i (term_of w.in-Some.part.now) c.loop-i.invariant.parts (sym w.in-Some.ensures)
            (quiet-inside (ranges_of c.args.ctx.now) (context_of c.args.ctx.now) (enter_facts (context_of c.args.ctx.now) (term_of c.args.term.now) c.loop-i.i) (term_of c.args.term.now) (term_of w.in-Some.part.now) c.loop-i.i
            (told-as (enter_ranges (ranges_of c.args.ctx.now) (context_of c.args.ctx.now) (term_of c.args.term.now) c.loop-i.i) (ranges_of w.push.new.self) (enter_facts (context_of c.args.ctx.now) (term_of c.args.term.now) c.loop-i.i) (context_of w.push.new.self) (term_of w.in-Some.part.now) None
            (entered-ranges c.args.ctx.now c.loop-i.ctx w.push.new.self c.args.term.now c.loop-i.i w.in_ok-mark.ensures.ranges c.loop-i.invariant.ranges c.loop-i.invariant.back)
            (w.in_ok-mark.ensures.entered ∙ ap (λ x. enter_facts x (term_of c.args.term.now) c.loop-i.i) c.loop-i.invariant.back)
            (subst (TellsSite w.push.new.self (term_of w.in-Some.part.now)) e w.in_ok-found.ensures.found)));
      }
      | find_in_parts-in_default w ↦ absurd (child-there (parts_of (term_of c.args.term.now)) c.loop-i.i (omega (arith, c.loop-i-test.true, c.parts-count.ensures)) w.in_default.ensures)
    ]

pub find_in_parts-returns-clause-back : goal.find_in_parts-returns-clause-back
find_in_parts-returns-clause-back t c = c.loop-i.invariant.back

pub find_in_parts-returns-clause-ranges : goal.find_in_parts-returns-clause-ranges
find_in_parts-returns-clause-ranges t c = c.loop-i.invariant.ranges

pub find_in_parts-returns-clause-globals : goal.find_in_parts-returns-clause-globals
find_in_parts-returns-clause-globals t c = c.loop-i.invariant.globals

pub find_in_parts-returns-clause-found : goal.find_in_parts-returns-clause-found
find_in_parts-returns-clause-found t c =
    found-none (ranges_of c.args.ctx.now) (context_of c.args.ctx.now) (term_of c.args.term.now) (everywhere (ranges_of c.args.ctx.now) (context_of c.args.ctx.now) (term_of c.args.term.now) c.loop-i.i c.requires.here c.loop-i.invariant.parts (omega (arith, c.loop-i-test.false, c.parts-count.ensures)))
