use Rattle.std.proofs.Common.{◌+◌, arith, ap, ◌∙◌}
use Rattle.nrca_term.specs.Laws.Measure.{weight_of-child}
use Rattle.nrca_term.specs.Term.{with_part, count, parts_of}
use Rattle.nrca_term.specs.Subst.{shift_term, top_var}
use Rattle.nrca_term.specs.View.{term_of}
use Rattle.nrca_term.specs.Laws.Exchange.{count-with_part}
use Rattle.nrca_subst.specs.Laws.Walking.{shift_part, with_first_parts-start, with_first_parts-step, with_first_parts-shift, count-with_first_parts, binders_of-with_first_parts, top_var-child, with_first_parts-part}
use Rattle.nrca_subst.proofs.shifting.+shift.Goals as goal

pub shift_parts_in-loop-i-init : goal.shift_parts_in-loop-i-init
shift_parts_in-loop-i-init t c = with_first_parts-start (shift_part c.args.from c.args.by) (term_of c.args.term.now)

pub shift_parts_in-binders-binders-requires : goal.shift_parts_in-binders-binders-requires
shift_parts_in-binders-binders-requires t c =
    omega (arith, count-with_first_parts (shift_part c.args.from c.args.by) c.loop-i.i (term_of c.args.term.now) (term_of c.loop-i.term) c.loop-i.invariant, c.parts-i-end.ensures)

pub shift_parts_in-exchange-requires : goal.shift_parts_in-exchange-requires
shift_parts_in-exchange-requires t c =
    omega (arith, count-with_first_parts (shift_part c.args.from c.args.by) c.loop-i.i (term_of c.args.term.now) (term_of c.loop-i.term) c.loop-i.invariant, c.parts-i-end.ensures)

pub shift_parts_in-shift_under-requires : goal.shift_parts_in-shift_under-requires
shift_parts_in-shift_under-requires t c =
    let g = shift_part c.args.from c.args.by in
    let u = term_of c.exchange.new.with in
    let found = with_first_parts-part g c.loop-i.i (term_of c.args.term.now) (term_of c.loop-i.term) u c.loop-i.invariant c.exchange.ensures.before in
    let k = c.binders-binders.ensures.number ∙ binders_of-with_first_parts g c.loop-i.i c.loop-i.i (term_of c.args.term.now) (term_of c.loop-i.term) c.loop-i.invariant in (
      omega (arith, c.decreases, weight_of-child (term_of c.args.term.now) c.loop-i.i u found),
      omega (
        arith,
        c.requires.fits,
        ap (λ n. top_var (shift_term (c.args.from + n) c.args.by u)) k,
        top_var-child c.args.from c.args.by (term_of c.args.term.now) c.loop-i.i u found,
      ),
    )

pub shift_parts_in-exchange-requires-in-loop-i : goal.shift_parts_in-exchange-requires-in-loop-i
shift_parts_in-exchange-requires-in-loop-i t c =
    omega (
      arith,
      ap (λ x. count (parts_of x)) c.exchange.ensures.now,
      count-with_part (term_of c.loop-i.term) c.loop-i.i (term_of c.loop-i.part),
      count-with_first_parts (shift_part c.args.from c.args.by) c.loop-i.i (term_of c.args.term.now) (term_of c.loop-i.term) c.loop-i.invariant,
      c.parts-i-end.ensures,
    )

pub shift_parts_in-loop-i-preserved : goal.shift_parts_in-loop-i-preserved
shift_parts_in-loop-i-preserved t c =
    let g = shift_part c.args.from c.args.by in
    let u = term_of c.exchange.new.with in
    let found = with_first_parts-part g c.loop-i.i (term_of c.args.term.now) (term_of c.loop-i.term) u c.loop-i.invariant c.exchange.ensures.before in
    let k = c.binders-binders.ensures.number ∙ binders_of-with_first_parts g c.loop-i.i c.loop-i.i (term_of c.args.term.now) (term_of c.loop-i.term) c.loop-i.invariant in
    c.exchange-in-loop-i.ensures.now
    ∙ ap (λ x. with_part x c.loop-i.i (term_of c.shift_under.new.part)) c.exchange.ensures.now
    ∙ with_first_parts-step g c.loop-i.i (term_of c.args.term.now) (term_of c.loop-i.term) u (term_of c.shift_under.new.part) c.loop-i.invariant found
    (c.shift_under.ensures ∙ ap (λ n. shift_term (c.args.from + n) c.args.by u) k) (term_of c.loop-i.part)

pub shift_parts_in-returns : goal.shift_parts_in-returns
shift_parts_in-returns t c =
    with_first_parts-shift c.args.from c.args.by c.loop-i.i (term_of c.args.term.now) (term_of c.loop-i.term) c.loop-i.invariant (omega (arith, c.parts-i-end.ensures)) c.requires.other
