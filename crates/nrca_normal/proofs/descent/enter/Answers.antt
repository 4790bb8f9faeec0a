use Rattle.std.proofs.Common.{arith}
use Rattle.nrca_term.specs.View.{term_of}
use Rattle.nrca_normal.specs.Laws.Typed.{part-number}
use Rattle.nrca_normal.proofs.descent.enter.Goals as goal

pub overflow_cast-i : goal.overflow_cast-i
overflow_cast-i c = let l = part-number c.args.run.now.ctx.depth (term_of c.args.term.now) c.args.i c.requires.inside.1 c.requires.has in omega (arith, l)
