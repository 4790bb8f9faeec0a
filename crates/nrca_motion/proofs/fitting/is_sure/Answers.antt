use Rattle.std.proofs.Common.{sym, subst}
use Rattle.nrca_term.specs.Term.{parts_of}
use Rattle.nrca_term.specs.View.{term_of}
use Rattle.nrca_term.specs.Laws.Entering.{child-counted}
use Rattle.nrca_term.specs.Laws.WellFormed.{well_formed-Core}
use Rattle.nrca_ranges.specs.Context.{context_of}
use Rattle.nrca_ranges.specs.Shapes.{ranges_of}
use Rattle.nrca_motion.specs.Fitting.{TellsOut}
use Rattle.nrca_motion.specs.Laws.Fitting.{first-inside, refused-first, moves-operand}
use Rattle.nrca_motion.proofs.fitting.is_sure.Goals as goal

pub binders-requires : goal.binders-requires
binders-requires c = child-counted (parts_of (term_of c.args.term.now)) c.args.fit.part (term_of c.in-Some.body.now) (sym c.in-Some.ensures)

pub is_sure_outside-requires : goal.is_sure_outside-requires
is_sure_outside-requires c = record {
  inside = first-inside c.args.fit.rule c.args.fit.part c.args.ctx.now.depth c.binders.result (term_of c.args.term.now) (term_of c.in-Some.body.now) (term_of c.in-Some-part.first.now) c.requires.form
      (well_formed-Core c.args.term.now) (well_formed-Core c.in-Some.body.now) (sym c.in-Some.ensures) (sym c.in-Some-part.ensures) c.binders.ensures.number c.requires.inside;
}

pub returns-then-not-sure : goal.returns-then-not-sure
returns-then-not-sure c =
    refused-first (ranges_of c.args.ctx.now) (context_of c.args.ctx.now) c.args.fit.rule c.args.fit.part c.binders.result (term_of c.args.term.now) (term_of c.in-Some.body.now) (term_of c.in-Some-part.first.now) c.requires.form
    (sym c.in-Some.ensures) (sym c.in-Some-part.ensures) c.binders.ensures.number
    (subst (TellsOut c.args.ctx.now c.binders.result (term_of c.in-Some-part.first.now)) c.if-not-sure.true c.in_ok-sure-in-Some-part.ensures)

pub returns-in_ok-found-in-M1 : goal.returns-in_ok-found-in-M1
returns-in_ok-found-in-M1 c =
    moves-operand c.args.ctx.now c.args.fit c.in_ok-found-in-M1.found c.binders.result (term_of c.args.term.now) (term_of c.in-Some.body.now) (term_of c.in-Some-part.first.now) c.requires.form
    (sym c.in-Some.ensures) (sym c.in-Some-part.ensures) c.binders.ensures.number c.in-M1.is
    (subst (TellsOut c.args.ctx.now c.binders.result (term_of c.in-Some-part.first.now)) c.if-not-sure.false c.in_ok-sure-in-Some-part.ensures) c.in_ok-found-in-M1.ensures
