use Rattle.std.proofs.Common.{[], refl, sym}
use Rattle.nrca_term.specs.Term.{parts_of}
use Rattle.nrca_term.specs.View.{term_of}
use Rattle.nrca_term.specs.Laws.Entering.{child-counted}
use Rattle.nrca_term.specs.Laws.WellFormed.{well_formed-Core}
use Rattle.nrca_ranges.specs.Context.{context_of}
use Rattle.nrca_normal.specs.Laws.Conditions.{tells-here, tells-part, tells-nothing}
use Rattle.nrca_ranges.specs.Shapes.{ranges_of}
use Rattle.nrca_ranges.specs.Laws.Entered.{entered-inside}
use Rattle.nrca_normal.proofs.conditions.part_defined.Goals as goal

pub push-requires-clause-has : goal.push-requires-clause-has
push-requires-clause-has c = child-counted (parts_of (term_of c.args.term.now)) c.args.i (term_of c.in-Some.part.now) (sym c.in-Some.ensures)

pub defined-requires : goal.defined-requires
defined-requires c = record {
  inside =
      entered-inside c.push.new.self.depth c.args.ctx.now.depth (context_of c.args.ctx.now) (context_of c.args.ctx.now) (context_of c.push.new.self) (term_of c.args.term.now) c.args.i (term_of c.in-Some.part.now)
      (well_formed-Core c.args.term.now) (sym c.in-Some.ensures) c.requires.inside c.in_ok-mark-in-Some.ensures.entered refl refl refl;
}

pub returns-in_ok-found-in-Some-clause-told : goal.returns-in_ok-found-in-Some-clause-told
returns-in_ok-found-in-Some-clause-told c =
    tells-part (ranges_of c.args.ctx.now) (ranges_of c.push.new.self) (context_of c.args.ctx.now) (context_of c.push.new.self) (term_of c.args.term.now) c.args.i (term_of c.in-Some.part.now) [] c.in_ok-found-in-Some.found
    (sym c.in-Some.ensures) c.in_ok-mark-in-Some.ensures.entered c.in_ok-mark-in-Some.ensures.ranges
    (tells-here (ranges_of c.push.new.self) (context_of c.push.new.self) (term_of c.in-Some.part.now) c.in_ok-found-in-Some.found c.in_ok-found-in-Some.ensures.sound c.in_ok-found-in-Some.ensures.strong)

pub returns-in-None-clause-told : goal.returns-in-None-clause-told
returns-in-None-clause-told c = tells-nothing (ranges_of c.args.ctx.now) (context_of c.args.ctx.now) (term_of c.args.term.now) c.args.i [] (sym c.in-None.ensures)
