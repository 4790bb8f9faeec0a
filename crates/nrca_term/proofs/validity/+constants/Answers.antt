use Rattle.std.proofs.Common.{sym, arith}
use Rattle.nrca_term.specs.Term.{parts_of}
use Rattle.nrca_term.specs.Laws.Measure.{weight_of-child}
use Rattle.nrca_term.specs.View.{term_of}
use Rattle.nrca_term.proofs.ConstantParts.{below-part, below-absent, node-constants}
use Rattle.nrca_term.proofs.validity.+constants.Goals as goal
use Rattle.nrca_term.proofs.validity.+constants.Goals.{in-Some, in_default}

pub constants-requires : goal.constants-requires
constants-requires t c = (omega (arith, c.decreases, weight_of-child (term_of c.args.term.now) c.loop-i.i (term_of c.in-Some.part.now) (sym c.in-Some.ensures)), tt)

pub loop-i-preserved : goal.loop-i-preserved
loop-i-preserved t c = elim c.match-part.branch [
  | in-Some w ↦ below-part (parts_of (term_of c.args.term.now)) c.loop-i.i (term_of w.in-Some.part.now) c.loop-i.invariant w.in-Some.ensures w.constants.ensures
  | in_default w ↦ below-absent (parts_of (term_of c.args.term.now)) c.loop-i.i c.loop-i.invariant w.in_default.ensures
]

pub returns : goal.returns
returns t c = node-constants (term_of c.args.term.now) c.loop-i.i c.constant.ensures (omega (arith, c.loop-i-test.false, c.parts-i-end.ensures)) c.loop-i.invariant
