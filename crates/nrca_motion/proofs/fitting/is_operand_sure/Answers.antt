use Rattle.std.proofs.Common.{sym}
use Rattle.nrca_term.specs.View.{term_of}
use Rattle.nrca_term.specs.Laws.WellFormed.{well_formed-Core}
use Rattle.nrca_motion.specs.Laws.Fitting.{operand-inside, operand-there, tells-operand}
use Rattle.nrca_motion.proofs.fitting.is_operand_sure.Goals as goal

pub defined-requires : goal.defined-requires
defined-requires c = record { inside = operand-inside c.args.ctx.now.depth (term_of c.args.term.now) (term_of c.in-Some.over.now) c.requires.form (well_formed-Core c.args.term.now) (sym c.in-Some.ensures) c.requires.inside }

pub unreachable-requires : goal.unreachable-requires
unreachable-requires c = operand-there (term_of c.args.term.now) c.requires.form (sym c.in-None.ensures)

pub returns : goal.returns
returns c = tells-operand c.args.ctx.now (term_of c.args.term.now) (term_of c.in-Some.over.now) c.in_ok-found-in-Some.found (sym c.in-Some.ensures) c.in_ok-found-in-Some.ensures.sound c.in_ok-found-in-Some.ensures.strong
