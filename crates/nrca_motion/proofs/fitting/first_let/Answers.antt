use Rattle.std.proofs.Common.{arith}
use Rattle.nrca_term.specs.View.{term_of}
use Rattle.nrca_motion.specs.Laws.Fitting.{no-strict}
use Rattle.nrca_motion.proofs.fitting.first_let.Goals as goal

pub returns : goal.returns
returns c = no-strict (term_of c.args.term.now) c.loop-i.i (omega (arith, c.loop-i-test.false, c.parts-i-end.ensures)) c.loop-i.invariant
