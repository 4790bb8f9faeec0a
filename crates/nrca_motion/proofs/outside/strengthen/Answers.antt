use Rattle.std.proofs.Common.{◌≡◌, ◌+◌, ◌<◌, ◌^◌, arith, ap, sym, subst, ◌∙◌}
use Rattle.nrca_term.specs.View.{term_of}
use Rattle.nrca_term.specs.Subst.{shift_term, subst_term, top_var}
use Rattle.nrca_term.specs.Laws.Equations.{term_of-Bottom}
use Rattle.nrca_term.specs.Laws.Shift.{shift_term-none}
use Rattle.nrca_term.specs.Laws.WellFormed.{well_formed-Core}
use Rattle.nrca_term.specs.declared.term.Core.TheVariants.{Bottom}
use Rattle.nrca_motion.specs.Laws.Outside.{outside-next, outside-none, outside-room}
use Rattle.nrca_motion.proofs.outside.strengthen.Goals as goal

pub loop-init : goal.loop-init
loop-init c = sym (shift_term-none 0 (term_of c.args.term))

pub returns-then-uses-ne0 : goal.returns-then-uses-ne0
returns-then-uses-ne0 c =
    outside-none c.loop.counter c.args.count (term_of c.args.term) (term_of c.loop.lowered) (well_formed-Core c.args.term) c.loop.invariant c.loop-test.true
    (λ e. c.if-uses-ne0.true (omega (arith, c.uses.ensures, e)))

pub subst-requires : goal.subst-requires
subst-requires c =
    subst (λ w. top_var (subst_term 0 w (term_of c.loop.lowered)) < 2 ^ 64) (sym term_of-Bottom)
    (outside-room c.loop.counter (term_of c.args.term) (term_of c.loop.lowered) (well_formed-Core c.args.term) c.loop.invariant c.requires)

pub loop-preserved : goal.loop-preserved
loop-preserved c =
    outside-next c.loop.counter (term_of c.args.term) (term_of c.loop.lowered) (term_of Bottom) (well_formed-Core c.loop.lowered) c.loop.invariant (omega (arith, c.uses.ensures, c.if-uses-ne0.false))
    ∙ ap (shift_term 0 (c.loop.counter + 1)) (sym c.in_ok-lowered.ensures.substituted)

pub returns : goal.returns
returns c = c.loop.invariant ∙ (let z : c.loop.counter ≡ c.args.count = omega (arith, c.loop-test.false, c.loop.auto.counter-end) in ap (λ n. shift_term 0 n (term_of c.loop.lowered)) z)
