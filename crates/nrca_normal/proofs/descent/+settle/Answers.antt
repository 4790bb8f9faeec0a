use Rattle.std.proofs.Common.{true, refl, sym, ap, subst, ◌∙◌, arith, inr}
use Rattle.std.proofs.lemmas.Result.{IfOk-weaker}
use Rattle.nrca_term.specs.declared.term.Core.TheVariants.{Bottom}
use Rattle.nrca_term.specs.Term.{count, parts_of}
use Rattle.nrca_term.specs.View.{term_of}
use Rattle.nrca_term.specs.Laws.Exchange.{count-with_part}
use Rattle.nrca_ranges.specs.Context.{context_of}
use Rattle.nrca_ranges.specs.Shapes.{shapes_in, ranges_of}
use Rattle.nrca_normal.specs.Conditions.{TellsNode}
use Rattle.nrca_normal.specs.Laws.Quiet.{parts-none}
use Rattle.nrca_normal.specs.Laws.Typed.{typed-small, part-falls, part-number}
use Rattle.nrca_normal.specs.Laws.Descent.{rewritten-none, rewritten-over, rewritten-again, rewritten-lower, quiet-as, none-settled, first-settled, again-settled, rewritten-typed, rewritten-falls, part-counted, still-quiet, part-entered, part-done, parts-next, parts-falls, parts-ended}
use Rattle.nrca_normal.proofs.descent.+settle.Goals as goal

pub settle-loop-i-init : goal.settle-loop-i-init
settle-loop-i-init t c = c.in_ok-first.ensures.settled

pub settle-settle_part-requires : goal.settle-settle_part-requires
settle-settle_part-requires t c =
    let f = rewritten-falls c.args.run.now c.loop-i.run (term_of c.args.term.now) (term_of c.loop-i.term) c.loop-i.changed c.requires.typed c.loop-i.invariant.0 in
    (omega (arith, f, c.decreases), (omega (arith, c.loop-i-test.true, c.parts.ensures), rewritten-typed c.args.run.now c.loop-i.run (term_of c.args.term.now) (term_of c.loop-i.term) c.loop-i.changed c.requires.typed c.loop-i.invariant.0))

pub settle-returns-in_err-below-clause-globals : goal.settle-returns-in_err-below-clause-globals
settle-returns-in_err-below-clause-globals t c = c.settle_part.ensures.globals ∙ ap (λ g. g.positions) c.loop-i.invariant.0.globals

pub settle-part_after-requires : goal.settle-part_after-requires
settle-part_after-requires t c =
    let ty = rewritten-typed c.args.run.now c.loop-i.run (term_of c.args.term.now) (term_of c.loop-i.term) c.loop-i.changed c.requires.typed c.loop-i.invariant.0 in
    let f = rewritten-falls c.args.run.now c.loop-i.run (term_of c.args.term.now) (term_of c.loop-i.term) c.loop-i.changed c.requires.typed c.loop-i.invariant.0 in
    let g = rewritten-falls c.loop-i.run c.settle_part.new.run (term_of c.loop-i.term) (term_of c.settle_part.new.term) c.in_ok-below.below ty c.in_ok-below.ensures.settled.0 in (
      omega (arith, f, g, c.decreases),
      (
        part-counted c.loop-i.run c.settle_part.new.run (term_of c.loop-i.term) (term_of c.settle_part.new.term) c.loop-i.i c.in_ok-below.below (omega (arith, c.loop-i-test.true, c.parts.ensures)) c.in_ok-below.ensures.settled,
        (
          rewritten-typed c.loop-i.run c.settle_part.new.run (term_of c.loop-i.term) (term_of c.settle_part.new.term) c.in_ok-below.below ty c.in_ok-below.ensures.settled.0,
          still-quiet c.args.run.now c.loop-i.run c.settle_part.new.run (term_of c.args.term.now) (term_of c.loop-i.term) (term_of c.settle_part.new.term) c.loop-i.i c.loop-i.changed c.in_ok-below.below c.loop-i.invariant c.in_ok-below.ensures.settled,
        ),
      ),
    )

pub settle-returns-in_err-i-clause-globals : goal.settle-returns-in_err-i-clause-globals
settle-returns-in_err-i-clause-globals t c = c.part_after.ensures.globals ∙ c.settle_part.ensures.globals ∙ ap (λ g. g.positions) c.loop-i.invariant.0.globals

pub settle-loop-i-smaller : goal.settle-loop-i-smaller
settle-loop-i-smaller t c =
    parts-falls c.loop-i.run c.settle_part.new.run c.part_after.new.run (term_of c.loop-i.term) (term_of c.settle_part.new.term) (term_of c.part_after.new.term) c.loop-i.i c.in_ok-i.i c.in_ok-below.below (omega (arith, c.loop-i-test.true, c.parts.ensures))
    (rewritten-typed c.args.run.now c.loop-i.run (term_of c.args.term.now) (term_of c.loop-i.term) c.loop-i.changed c.requires.typed c.loop-i.invariant.0)
    c.in_ok-below.ensures.settled.0 c.in_ok-i.ensures.on

pub settle-loop-i-preserved : goal.settle-loop-i-preserved
settle-loop-i-preserved t c =
    parts-next c.args.run.now c.loop-i.run c.settle_part.new.run c.part_after.new.run (term_of c.args.term.now) (term_of c.loop-i.term) (term_of c.settle_part.new.term) (term_of c.part_after.new.term) c.loop-i.i c.in_ok-i.i c.loop-i.changed c.in_ok-below.below
    (omega (arith, c.loop-i-test.true, c.parts.ensures)) c.loop-i.invariant c.in_ok-below.ensures.settled c.in_ok-i.ensures.on

pub settle-returns-clause-globals : goal.settle-returns-clause-globals
settle-returns-clause-globals t c = ap (λ g. g.positions) c.loop-i.invariant.0.globals

pub settle-returns-clause-settled : goal.settle-returns-clause-settled
settle-returns-clause-settled t c =
    parts-ended c.args.run.now c.loop-i.run (term_of c.args.term.now) (term_of c.loop-i.term) c.loop-i.i c.loop-i.changed c.loop-i.invariant (omega (arith, c.loop-i-test.false, c.parts.ensures))

pub settle_part-enter-requires-clause-inside : goal.settle_part-enter-requires-clause-inside
settle_part-enter-requires-clause-inside t c = typed-small c.args.run.now.ctx.depth (term_of c.args.term.now) c.requires.typed

pub settle_part-settle-done-requires : goal.settle_part-settle-done-requires
settle_part-settle-done-requires t c =
    let f = part-falls c.args.run.now.ctx.depth (term_of c.args.term.now) c.args.i (term_of c.exchange.new.with) c.requires.typed (sym c.exchange.ensures.before) in
    (omega (arith, f, c.decreases), part-entered c.args.run.now c.enter.new.run (term_of c.args.term.now) (term_of c.exchange.new.with) c.args.i c.in_ok-mark.mark c.requires.typed (sym c.exchange.ensures.before) c.in_ok-mark.ensures.entered)

pub settle_part-exchange-requires-2 : goal.settle_part-exchange-requires-2
settle_part-exchange-requires-2 t c =
    omega (arith, c.requires.has, ap (λ x. count (parts_of x)) c.exchange.ensures.now, count-with_part (term_of c.args.term.now) c.args.i (term_of Bottom))

pub settle_part-returns-clause-globals : goal.settle_part-returns-clause-globals
settle_part-returns-clause-globals t c = ap (λ g. g.positions) c.leave.ensures.globals ∙ c.settle-done.ensures.globals ∙ c.enter.ensures.globals

pub settle_part-returns-clause-settled : goal.settle_part-returns-clause-settled
settle_part-returns-clause-settled t c =
    IfOk-weaker c.settle-done.result _ _
    (λ x h. part-done c.args.run.now c.enter.new.run c.settle-done.new.run c.leave.new.run (term_of c.args.term.now) (term_of c.exchange.new.with) (term_of c.settle-done.new.term) (term_of c.exchange.new.self) (term_of c.exchange-2.new.self) (term_of Bottom) c.args.i x c.in_ok-mark.mark
    (sym c.exchange.ensures.before) c.exchange.ensures.now c.exchange-2.ensures.now c.in_ok-mark.ensures.entered h c.leave.ensures)
    c.settle-done.ensures.settled

pub part_after-overflow_add-result : goal.part_after-overflow_add-result
part_after-overflow_add-result t c = let l = part-number c.args.run.now.ctx.depth (term_of c.args.term.now) c.args.i c.requires.typed.small c.requires.has in omega (arith, l)

pub part_after-returns-then-not-below-clause-on : goal.part_after-returns-then-not-below-clause-on
part_after-returns-then-not-below-clause-on t c = inr (refl, rewritten-none c.args.run.now c.args.run.now (term_of c.args.term.now) refl refl refl refl, c.requires.quiet c.if-not-below.true)

pub part_after-overflow_add-result-else-again : goal.part_after-overflow_add-result-else-again
part_after-overflow_add-result-else-again t c = let l = part-number c.args.run.now.ctx.depth (term_of c.args.term.now) c.args.i c.requires.typed.small c.requires.has in omega (arith, l)

pub settle_node-loop-firing-init : goal.settle_node-loop-firing-init
settle_node-loop-firing-init t c =
    (rewritten-none c.args.run.now c.args.run.now (term_of c.args.term.now) refl refl refl refl, parts-none (ranges_of c.args.run.now.ctx) (context_of c.args.run.now.ctx) (term_of c.args.term.now))

pub settle_node-rule_at-requires : goal.settle_node-rule_at-requires
settle_node-rule_at-requires t c = record {
  inside = typed-small c.loop-firing.run.ctx.depth (term_of c.loop-firing.term)
      (rewritten-typed c.args.run.now c.loop-firing.run (term_of c.args.term.now) (term_of c.loop-firing.term) c.loop-firing.changed c.requires.typed c.loop-firing.invariant.0);
}

pub settle_node-returns-in_err-firing-clause-globals : goal.settle_node-returns-in_err-firing-clause-globals
settle_node-returns-in_err-firing-clause-globals t c = ap shapes_in c.rule_at.ensures.globals ∙ ap (λ g. g.positions) c.loop-firing.invariant.0.globals

pub settle_node-rewrite-requires-clause-typed : goal.settle_node-rewrite-requires-clause-typed
settle_node-rewrite-requires-clause-typed t c =
    rewritten-typed c.args.run.now (record { ctx = c.rule_at.new.ctx; way = c.loop-firing.run.way; steps = c.loop-firing.run.steps }) (term_of c.args.term.now) (term_of c.loop-firing.term) c.loop-firing.changed c.requires.typed
    (rewritten-over c.args.run.now c.loop-firing.run (term_of c.args.term.now) (term_of c.loop-firing.term) c.loop-firing.changed c.rule_at.new.ctx c.loop-firing.invariant.0 c.in_ok-firing.ensures.ranges c.in_ok-firing.ensures.back)

pub settle_node-returns-in_err-rewrite-in-Some-clause-globals : goal.settle_node-returns-in_err-rewrite-in-Some-clause-globals
settle_node-returns-in_err-rewrite-in-Some-clause-globals t c = c.rewrite.ensures.globals ∙ ap shapes_in c.rule_at.ensures.globals ∙ ap (λ g. g.positions) c.loop-firing.invariant.0.globals

pub settle_node-settle_bound-requires : goal.settle_node-settle_bound-requires
settle_node-settle_bound-requires t c =
    let h = rewritten-again c.args.run.now (record { ctx = c.rule_at.new.ctx; way = c.loop-firing.run.way; steps = c.loop-firing.run.steps }) c.rewrite.new.run (term_of c.args.term.now) (term_of c.loop-firing.term) (term_of c.rewrite.new.term) c.loop-firing.changed
    (rewritten-over c.args.run.now c.loop-firing.run (term_of c.args.term.now) (term_of c.loop-firing.term) c.loop-firing.changed c.rule_at.new.ctx c.loop-firing.invariant.0 c.in_ok-firing.ensures.ranges c.in_ok-firing.ensures.back)
    c.in_ok-rewrite-in-Some.ensures.rewritten in
    let f = rewritten-falls c.args.run.now c.rewrite.new.run (term_of c.args.term.now) (term_of c.rewrite.new.term) true c.requires.typed h in
    (omega (arith, f, c.decreases), rewritten-typed c.args.run.now c.rewrite.new.run (term_of c.args.term.now) (term_of c.rewrite.new.term) true c.requires.typed h)

pub settle_node-returns-in_err-settled-in-Some-clause-globals : goal.settle_node-returns-in_err-settled-in-Some-clause-globals
settle_node-returns-in_err-settled-in-Some-clause-globals t c = c.settle_bound.ensures.globals ∙ c.rewrite.ensures.globals ∙ ap shapes_in c.rule_at.ensures.globals ∙ ap (λ g. g.positions) c.loop-firing.invariant.0.globals

pub settle_node-loop-firing-smaller : goal.settle_node-loop-firing-smaller
settle_node-loop-firing-smaller t c =
    let ty = rewritten-typed c.args.run.now (record { ctx = c.rule_at.new.ctx; way = c.loop-firing.run.way; steps = c.loop-firing.run.steps }) (term_of c.args.term.now) (term_of c.loop-firing.term) c.loop-firing.changed c.requires.typed
    (rewritten-over c.args.run.now c.loop-firing.run (term_of c.args.term.now) (term_of c.loop-firing.term) c.loop-firing.changed c.rule_at.new.ctx c.loop-firing.invariant.0 c.in_ok-firing.ensures.ranges c.in_ok-firing.ensures.back) in
    let h = c.in_ok-rewrite-in-Some.ensures.rewritten in
    let k = c.in_ok-settled-in-Some.ensures.settled in
    let l = rewritten-lower (record { ctx = c.rule_at.new.ctx; way = c.loop-firing.run.way; steps = c.loop-firing.run.steps }) c.rewrite.new.run (term_of c.loop-firing.term) (term_of c.rewrite.new.term) ty h in
    let m = rewritten-falls c.rewrite.new.run c.settle_bound.new.run (term_of c.rewrite.new.term) (term_of c.settle_bound.new.term) k.0
    (rewritten-typed (record { ctx = c.rule_at.new.ctx; way = c.loop-firing.run.way; steps = c.loop-firing.run.steps }) c.rewrite.new.run (term_of c.loop-firing.term) (term_of c.rewrite.new.term) true ty h) k.1 in
    omega (arith, l, m)

pub settle_node-loop-firing-preserved : goal.settle_node-loop-firing-preserved
settle_node-loop-firing-preserved t c =
    again-settled c.args.run.now c.rewrite.new.run c.settle_bound.new.run (term_of c.args.term.now) (term_of c.rewrite.new.term) (term_of c.settle_bound.new.term) c.in_ok-settled-in-Some.settled
    (rewritten-again c.args.run.now (record { ctx = c.rule_at.new.ctx; way = c.loop-firing.run.way; steps = c.loop-firing.run.steps }) c.rewrite.new.run (term_of c.args.term.now) (term_of c.loop-firing.term) (term_of c.rewrite.new.term) c.loop-firing.changed
    (rewritten-over c.args.run.now c.loop-firing.run (term_of c.args.term.now) (term_of c.loop-firing.term) c.loop-firing.changed c.rule_at.new.ctx c.loop-firing.invariant.0 c.in_ok-firing.ensures.ranges c.in_ok-firing.ensures.back)
    c.in_ok-rewrite-in-Some.ensures.rewritten)
    c.in_ok-settled-in-Some.ensures.settled

pub settle_node-returns-in-None-clause-globals : goal.settle_node-returns-in-None-clause-globals
settle_node-returns-in-None-clause-globals t c = ap shapes_in c.rule_at.ensures.globals ∙ ap (λ g. g.positions) c.loop-firing.invariant.0.globals

pub settle_node-returns-in-None-clause-settled : goal.settle_node-returns-in-None-clause-settled
settle_node-returns-in-None-clause-settled t c = (
  rewritten-over c.args.run.now c.loop-firing.run (term_of c.args.term.now) (term_of c.loop-firing.term) c.loop-firing.changed c.rule_at.new.ctx c.loop-firing.invariant.0 c.in_ok-firing.ensures.ranges c.in_ok-firing.ensures.back,
  quiet-as c.args.run.now c.loop-firing.run (term_of c.args.term.now) (term_of c.loop-firing.term) c.loop-firing.changed (term_of c.loop-firing.term) c.loop-firing.invariant.0
      (subst (TellsNode c.loop-firing.run.ctx (term_of c.loop-firing.term)) c.in-None.is c.in_ok-firing.ensures.told),
  c.loop-firing.invariant.1,
)

pub settle_bound-returns-then-not-is_let-clause-settled : goal.settle_bound-returns-then-not-is_let-clause-settled
settle_bound-returns-then-not-is_let-clause-settled t c = none-settled c.args.run.now (term_of c.args.term.now)

pub settle_bound-settle_part-requires : goal.settle_bound-settle_part-requires
settle_bound-settle_part-requires t c = (omega (arith, c.decreases), (c.is_let.ensures c.if-not-is_let.false, c.requires.typed))

pub settle_bound-returns-clause-settled : goal.settle_bound-returns-clause-settled
settle_bound-returns-clause-settled t c =
    first-settled c.args.run.now c.settle_part.new.run (term_of c.args.term.now) (term_of c.settle_part.new.term) c.in_ok-settle_part.field-0 (c.is_let.ensures c.if-not-is_let.false) c.in_ok-settle_part.ensures.settled
