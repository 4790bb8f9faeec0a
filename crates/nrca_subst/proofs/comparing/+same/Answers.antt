use Rattle.std.proofs.Common.{◌+◌, ◌-◌, ◌^◌, min, false, arith, sym, subst, ◌∙◌}
use Rattle.nrca_term.specs.Term.{parts_of}
use Rattle.nrca_term.specs.View.{term_of}
use Rattle.nrca_term.specs.Laws.WellFormed.{well_formed-Core}
use Rattle.nrca_subst.specs.Depth.{TellsShifted}
use Rattle.nrca_subst.proofs.Equal.{tells-all, tells-count, tells-part}
use Rattle.nrca_term.specs.Laws.Measure.{weight_of-child}
use Rattle.nrca_subst.proofs.comparing.+same.Goals as goal
use Rattle.nrca_term.specs.Laws.Entering.{child-there}

pub same_parts-returns-then-count-parts : goal.same_parts-returns-then-count-parts
same_parts-returns-then-count-parts t c =
    tells-count c.args.depth c.args.by (term_of c.args.a.now) (term_of c.args.b.now) (λ e. c.if-count-parts.true (c.parts-count.ensures ∙ e ∙ sym c.parts.ensures))

pub same_parts-same_under-requires : goal.same_parts-same_under-requires
same_parts-same_under-requires t c =
    (omega (arith, c.decreases, weight_of-child (term_of c.args.a.now) c.loop-i.i (term_of c.in-Some-Some.x.now) (sym c.in-Some-Some.ensures)), tt)

pub same_parts-returns-then-not-same_under : goal.same_parts-returns-then-not-same_under
same_parts-returns-then-not-same_under t c =
    let differ : TellsShifted (min (c.args.depth + c.binders.result) (2 ^ 128 - 1)) c.args.by (term_of c.in-Some-Some.x.now) (term_of c.in-Some-Some.y.now) false =
    subst (λ m. TellsShifted m c.args.by (term_of c.in-Some-Some.x.now) (term_of c.in-Some-Some.y.now) false) (omega (arith, c.saturating_add-deeper.ensures))
    (subst (λ b. TellsShifted c.saturating_add-deeper.result c.args.by (term_of c.in-Some-Some.x.now) (term_of c.in-Some-Some.y.now) b) c.if-not-same_under.true c.same_under.ensures) in
    tells-part c.args.depth c.args.by c.binders.result c.loop-i.i (term_of c.args.a.now) (term_of c.args.b.now) (term_of c.in-Some-Some.x.now) (term_of c.in-Some-Some.y.now)
    (sym c.in-Some-Some.ensures) (sym c.in-Some-Some.ensures') c.binders.ensures.number differ

pub same_parts-returns-in_default : goal.same_parts-returns-in_default
same_parts-returns-in_default t c =
    absurd (child-there (parts_of (term_of c.args.b.now)) c.loop-i.i (omega (arith, c.parts-count.ensures, c.parts.ensures)) c.in_default.ensures')

pub same_parts-returns-in_default-2 : goal.same_parts-returns-in_default-2
same_parts-returns-in_default-2 t c = absurd (child-there (parts_of (term_of c.args.a.now)) c.loop-i.i (omega (arith, c.parts-count.ensures)) c.in_default.ensures)

pub same_parts-returns : goal.same_parts-returns
same_parts-returns t c =
    tells-all c.args.depth c.args.by c.loop-i.i (term_of c.args.a.now) (term_of c.args.b.now) (well_formed-Core c.args.a.now) (well_formed-Core c.args.b.now) c.requires.other c.requires.form
    (omega (arith, c.parts-count.ensures, c.parts.ensures)) (omega (arith, c.parts-count.ensures)) c.loop-i.invariant
