use Rattle.std.proofs.Common.{◌-◌, ◌^◌, min, arith, ap, sym, subst, ◌∙◌}
use Rattle.nrca_term.specs.Term.{parts_of}
use Rattle.nrca_term.specs.View.{term_of}
use Rattle.nrca_subst.specs.Depth.{CountsUses}
use Rattle.nrca_subst.proofs.Counts.{first_uses-none, uses-counted, counts-part}
use Rattle.nrca_term.specs.Laws.Measure.{weight_of-child}
use Rattle.nrca_term.specs.Laws.Entering.{child-there}
use Rattle.nrca_subst.proofs.counting.+uses.Goals as goal
use Rattle.nrca_subst.proofs.counting.+uses.Goals.{uses_in_parts-in-Some, uses_in_parts-in_default}

pub uses_in_parts-loop-i-init : goal.uses_in_parts-loop-i-init
uses_in_parts-loop-i-init t c n d = omega (arith, first_uses-none n (parts_of (term_of c.args.term.now)))

pub uses_in_parts-uses_under-requires : goal.uses_in_parts-uses_under-requires
uses_in_parts-uses_under-requires t c = (omega (arith, c.decreases, weight_of-child (term_of c.args.term.now) c.loop-i.i (term_of c.in-Some.part.now) (sym c.in-Some.ensures)), tt)

pub uses_in_parts-loop-i-preserved : goal.uses_in_parts-loop-i-preserved
uses_in_parts-loop-i-preserved t c n d =
    elim c.match-part.branch [
      | uses_in_parts-in-Some w ↦ w.total-is ∙ w.saturating_add-total.ensures
          ∙ counts-part c.args.at c.binders.result n c.loop-i.total w.uses_under.result c.loop-i.i (term_of c.args.term.now) (term_of w.in-Some.part.now) (sym w.in-Some.ensures) c.binders.ensures.number
          (subst (λ m. CountsUses m (term_of w.in-Some.part.now) w.uses_under.result) (omega (arith, c.saturating_add-deeper.ensures)) w.uses_under.ensures) d (c.loop-i.invariant n d)
      | uses_in_parts-in_default w ↦ absurd (child-there (parts_of (term_of c.args.term.now)) c.loop-i.i (omega (arith, c.parts-i-end.ensures)) w.in_default.ensures)
    ]

pub uses_in_parts-returns : goal.uses_in_parts-returns
uses_in_parts-returns t c n d =
    c.loop-i.invariant n d ∙ ap (λ m. min m (2 ^ 64 - 1)) (uses-counted n c.loop-i.i (term_of c.args.term.now) c.requires (omega (arith, c.parts-i-end.ensures)))
