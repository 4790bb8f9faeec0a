use Rattle.std.proofs.Common.{arith, ap, ◌∙◌}
use Rattle.nrca_term.specs.Laws.Measure.{weight_of-child}
use Rattle.nrca_term.specs.Term.{with_part, count, parts_of}
use Rattle.nrca_term.specs.View.{term_of}
use Rattle.nrca_term.specs.Laws.Exchange.{count-with_part}
use Rattle.nrca_subst.specs.Laws.Walking.{with_first_parts-start, with_first_parts-step, with_first_parts-part, count-with_first_parts}
use Rattle.nrca_graph.proofs.Translating.{free_part, free-all, room-child, room-free}
use Rattle.nrca_graph.proofs.terms.+to_graph.Goals as goal

pub translate_parts-loop-i-init : goal.translate_parts-loop-i-init
translate_parts-loop-i-init t c = with_first_parts-start free_part (term_of c.args.term.now)

pub translate_parts-exchange-requires : goal.translate_parts-exchange-requires
translate_parts-exchange-requires t c =
    omega (arith, count-with_first_parts free_part c.loop-i.i (term_of c.args.term.now) (term_of c.loop-i.term) c.loop-i.invariant, c.parts-i-end.ensures)

pub translate-replace-requires : goal.translate-replace-requires
translate-replace-requires t c = room-free (term_of c.args.term.now) (term_of c.translate_parts.new.term) c.requires c.in_ok-translate_parts.ensures

pub translate_parts-translate-requires : goal.translate_parts-translate-requires
translate_parts-translate-requires t c =
    let u = term_of c.exchange.new.with in
    let found = with_first_parts-part free_part c.loop-i.i (term_of c.args.term.now) (term_of c.loop-i.term) u c.loop-i.invariant c.exchange.ensures.before in (
      omega (arith, c.decreases, weight_of-child (term_of c.args.term.now) c.loop-i.i u found),
      room-child (term_of c.args.term.now) c.loop-i.i u found c.requires,
    )

pub translate_parts-exchange-requires-in-Ok : goal.translate_parts-exchange-requires-in-Ok
translate_parts-exchange-requires-in-Ok t c =
    omega (
      arith,
      ap (λ x. count (parts_of x)) c.exchange.ensures.now,
      count-with_part (term_of c.loop-i.term) c.loop-i.i (term_of c.loop-i.part),
      count-with_first_parts free_part c.loop-i.i (term_of c.args.term.now) (term_of c.loop-i.term) c.loop-i.invariant,
      c.parts-i-end.ensures,
    )

pub translate_parts-loop-i-preserved : goal.translate_parts-loop-i-preserved
translate_parts-loop-i-preserved t c =
    let u = term_of c.exchange.new.with in
    let found = with_first_parts-part free_part c.loop-i.i (term_of c.args.term.now) (term_of c.loop-i.term) u c.loop-i.invariant c.exchange.ensures.before in
    c.exchange-in-Ok.ensures.now
    ∙ ap (λ x. with_part x c.loop-i.i (term_of c.translate.new.term)) c.exchange.ensures.now
    ∙ with_first_parts-step free_part c.loop-i.i (term_of c.args.term.now) (term_of c.loop-i.term) u (term_of c.translate.new.term) c.loop-i.invariant found c.in-Ok.ensures (term_of c.loop-i.part)

pub translate_parts-returns : goal.translate_parts-returns
translate_parts-returns t c = free-all c.loop-i.i (term_of c.args.term.now) (term_of c.loop-i.term) c.loop-i.invariant (omega (arith, c.parts-i-end.ensures))
