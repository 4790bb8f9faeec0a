use Rattle.std.proofs.Common.{◌+◌, ◌≤◌, arith, ap, ◌∙◌}
use Rattle.nrca_term.specs.Laws.Measure.{weight_of-child}
use Rattle.nrca_term.specs.Term.{with_part, count, parts_of, form_of, form_weight}
use Rattle.nrca_term.specs.Rules.{replace_dims}
use Rattle.nrca_term.specs.Subst.{shift_term}
use Rattle.nrca_term.specs.View.{term_of}
use Rattle.nrca_term.specs.Laws.Exchange.{count-with_part}
use Rattle.nrca_subst.specs.Laws.Walking.{with_first_parts-start, with_first_parts-step, count-with_first_parts, binders_of-with_first_parts, with_first_parts-part}
use Rattle.nrca_arrayrules.proofs.ReplaceWalk.{replace_part, with_first_parts-replaced, form_of-with_first_parts, room-part, room-form}
use Rattle.nrca_arrayrules.proofs.replacing.+replace.Goals as goal

pub replace_in_parts-loop-i-init : goal.replace_in_parts-loop-i-init
replace_in_parts-loop-i-init t c = with_first_parts-start (replace_part c.args.depth (term_of c.args.size.now)) (term_of c.args.term.now)

pub replace_in_parts-binders-requires : goal.replace_in_parts-binders-requires
replace_in_parts-binders-requires t c = omega (arith, count-with_first_parts _ c.loop-i.i (term_of c.args.term.now) (term_of c.loop-i.term) c.loop-i.invariant, c.parts-i-end.ensures)

pub replace_in_parts-overflow_add-deeper : goal.replace_in_parts-overflow_add-deeper
replace_in_parts-overflow_add-deeper t c =
    let l : c.binders.result ≤ form_weight (form_of (term_of c.args.term.now)) = omega (arith, c.binders.ensures.light, ap form_weight (form_of-with_first_parts _ c.loop-i.i (term_of c.args.term.now) (term_of c.loop-i.term) c.loop-i.invariant)) in
    omega (arith, room-form c.args.depth c.binders.result (term_of c.args.size.now) (term_of c.args.term.now) l c.requires.room)

pub replace_in_parts-exchange-requires : goal.replace_in_parts-exchange-requires
replace_in_parts-exchange-requires t c = omega (arith, count-with_first_parts _ c.loop-i.i (term_of c.args.term.now) (term_of c.loop-i.term) c.loop-i.invariant, c.parts-i-end.ensures)

pub replace_in_parts-replace_in-requires : goal.replace_in_parts-replace_in-requires
replace_in_parts-replace_in-requires t c =
    let u = term_of c.exchange.new.with in
    let found = with_first_parts-part _ c.loop-i.i (term_of c.args.term.now) (term_of c.loop-i.term) u c.loop-i.invariant c.exchange.ensures.before in
    let l : c.binders.result ≤ form_weight (form_of (term_of c.args.term.now)) = omega (arith, c.binders.ensures.light, ap form_weight (form_of-with_first_parts _ c.loop-i.i (term_of c.args.term.now) (term_of c.loop-i.term) c.loop-i.invariant)) in
    (omega (arith, c.decreases, weight_of-child (term_of c.args.term.now) c.loop-i.i u found), room-part c.args.depth c.binders.result c.loop-i.i (term_of c.args.size.now) (term_of c.args.term.now) u found l c.requires.room)

pub replace_in_parts-exchange-requires-in-Ok : goal.replace_in_parts-exchange-requires-in-Ok
replace_in_parts-exchange-requires-in-Ok t c =
    omega (
      arith,
      ap (λ x. count (parts_of x)) c.exchange.ensures.now,
      count-with_part (term_of c.loop-i.term) c.loop-i.i (term_of c.loop-i.part),
      count-with_first_parts _ c.loop-i.i (term_of c.args.term.now) (term_of c.loop-i.term) c.loop-i.invariant,
      c.parts-i-end.ensures,
    )

pub replace_in_parts-loop-i-preserved : goal.replace_in_parts-loop-i-preserved
replace_in_parts-loop-i-preserved t c =
    let s = term_of c.args.size.now in
    let u = term_of c.exchange.new.with in
    let found = with_first_parts-part _ c.loop-i.i (term_of c.args.term.now) (term_of c.loop-i.term) u c.loop-i.invariant c.exchange.ensures.before in
    let k = c.binders.ensures.number ∙ binders_of-with_first_parts _ c.loop-i.i c.loop-i.i (term_of c.args.term.now) (term_of c.loop-i.term) c.loop-i.invariant in
    c.exchange-in-Ok.ensures.now
    ∙ ap (λ x. with_part x c.loop-i.i (term_of c.replace_in.new.term)) c.exchange.ensures.now
    ∙ with_first_parts-step (replace_part c.args.depth s) c.loop-i.i (term_of c.args.term.now) (term_of c.loop-i.term) u (term_of c.replace_in.new.term) c.loop-i.invariant found
    (c.in-Ok.ensures ∙ ap (λ m. replace_dims (c.args.depth + m) (shift_term 0 (c.args.depth + m) s) u) k) (term_of c.loop-i.part)

pub replace_in_parts-returns : goal.replace_in_parts-returns
replace_in_parts-returns t c = with_first_parts-replaced c.args.depth (term_of c.args.size.now) c.loop-i.i (term_of c.args.term.now) (term_of c.loop-i.term) c.loop-i.invariant (omega (arith, c.parts-i-end.ensures)) c.requires.other
