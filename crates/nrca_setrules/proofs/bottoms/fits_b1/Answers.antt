use Rattle.std.proofs.Common.{rules, arith, sym, ◌∙◌}
use Rattle.nrca_term.specs.View.{term_of}
use Rattle.nrca_setrules.proofs.BottomSides.{b1_fits, b1_next, b1_unfit}
use Rattle.nrca_setrules.proofs.Sides.{false-true}
use Rattle.nrca_setrules.proofs.bottoms.fits_b1.Goals as goal

pub loop-i-preserved : goal.loop-i-preserved
loop-i-preserved c = b1_next (term_of c.args.term.now) c.loop-i.i c.loop-i.invariant (λ h. absurd (false-true (sym c.if-spoils.false ∙ c.spoils.ensures.1 h)))

pub returns : goal.returns
returns c = b1_unfit (term_of c.args.term.now) c.loop-i.i (omega (arith, c.parts-i-end.ensures)) c.loop-i.invariant

pub returns-then-spoils : goal.returns-then-spoils
returns-then-spoils c = b1_fits (term_of c.args.term.now) c.loop-i.i (c.spoils.ensures.0 (search rules))
