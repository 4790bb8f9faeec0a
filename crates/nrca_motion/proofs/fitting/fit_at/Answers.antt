use Rattle.std.proofs.Common.{subst}
use Rattle.nrca_term.specs.View.{term_of}
use Rattle.nrca_ranges.specs.Context.{context_of}
use Rattle.nrca_ranges.specs.Shapes.{ranges_of}
use Rattle.nrca_motion.specs.Fitting.{TellsMove}
use Rattle.nrca_motion.specs.Laws.Fitting.{still-none, still-refused}
use Rattle.nrca_motion.proofs.fitting.fit_at.Goals as goal

pub returns-else-sure : goal.returns-else-sure
returns-else-sure c =
    still-refused (ranges_of c.args.ctx.now) (context_of c.args.ctx.now) (term_of c.args.term.now) c.in-Some-form_at.fit c.in_default.ensures c.in-Some-form_at.ensures
    (subst (TellsMove c.args.ctx.now (term_of c.args.term.now) c.in-Some-form_at.fit) c.if-sure.false c.in_ok-sure-in-Some-form_at.ensures)

pub returns-in-None : goal.returns-in-None
returns-in-None c = still-none (ranges_of c.args.ctx.now) (context_of c.args.ctx.now) (term_of c.args.term.now) c.in_default.ensures c.in-None.ensures
