use Rattle.std.proofs.Common.{◌+◌, sym, subst, refl, ◌∙◌, arith}
use Rattle.nrca_term.specs.Term.{Closed, parts_of}
use Rattle.nrca_term.specs.View.{term_of}
use Rattle.nrca_term.specs.Laws.Entering.{child-counted}
use Rattle.nrca_term.specs.Laws.Measure.{weight_of-child}
use Rattle.nrca_term.specs.Laws.WellFormed.{well_formed-Core}
use Rattle.nrca_ranges.specs.Laws.Entered.{room-part, child-closed, parts-closed, closed-parts, closed-node}
use Rattle.nrca_ranges.proofs.finding.+closed.Goals as goal

pub are_closed-is_closed-requires : goal.are_closed-is_closed-requires
are_closed-is_closed-requires t c = (
  omega (arith, c.decreases, weight_of-child (term_of c.args.term.now) c.loop-i.i (term_of c.in-Some.part.now) (sym c.in-Some.ensures)),
  omega (arith, room-part c.args.depth (term_of c.args.term.now) c.loop-i.i (term_of c.in-Some.part.now) (well_formed-Core c.args.term.now) (sym c.in-Some.ensures) c.requires.room, c.binders.ensures.number),
)

pub are_closed-returns-then-not-is_closed : goal.are_closed-returns-then-not-is_closed
are_closed-returns-then-not-is_closed t c = (
  λ h. cc,
  λ k. sym c.if-not-is_closed.true
      ∙ c.is_closed.ensures.1
      (subst (λ n. Closed (c.args.depth + n) (term_of c.in-Some.part.now)) (sym c.binders.ensures.number)
      (child-closed c.args.depth (parts_of (term_of c.args.term.now)) c.loop-i.i (term_of c.in-Some.part.now) (sym c.in-Some.ensures) (closed-parts c.args.depth (term_of c.args.term.now) k))),
)

pub are_closed-returns : goal.are_closed-returns
are_closed-returns t c = (
  λ h. closed-node c.args.depth (term_of c.args.term.now) c.requires.other
      (parts-closed c.args.depth (parts_of (term_of c.args.term.now))
      (λ i u e. c.loop-i.invariant i u (omega (arith, child-counted (parts_of (term_of c.args.term.now)) i u e, c.loop-i-test.false, c.parts-i-end.ensures)) e)),
  λ k. refl,
)
