use Rattle.std.proofs.Common.{arith}
use Rattle.nrca_term.specs.View.{term_of}
use Rattle.nrca_term.specs.Laws.Shift.{top_var-shift_le}
use Rattle.nrca_motion.specs.Laws.Making.{count-shift}
use Rattle.nrca_motion.proofs.making.wrap_in_let.Goals as goal

pub shift-deeper-requires : goal.shift-deeper-requires
shift-deeper-requires c = omega (arith, c.requires.room, top_var-shift_le 0 1 (term_of c.args.rest))

pub put_part-requires : goal.put_part-requires
put_part-requires c = omega (arith, c.requires.has, count-shift (term_of c.args.rest) (term_of c.shift-deeper.result) c.shift-deeper.ensures.shifted)
