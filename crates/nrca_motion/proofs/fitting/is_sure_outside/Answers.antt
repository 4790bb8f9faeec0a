use Rattle.std.proofs.Common.{◌+◌, sym, subst, arith, ◌∙◌}
use Rattle.nrca_term.specs.View.{term_of}
use Rattle.nrca_term.specs.Laws.WellFormed.{well_formed-Core}
use Rattle.nrca_ranges.specs.Context.{context_of}
use Rattle.nrca_ranges.specs.Shapes.{ranges_of}
use Rattle.nrca_motion.specs.Outside.{HasRoom, IsOutside}
use Rattle.nrca_motion.specs.Laws.Outside.{outside-unused}
use Rattle.nrca_motion.specs.Laws.Fitting.{inside-outside, room-small, tells-outside}
use Rattle.nrca_motion.proofs.fitting.is_sure_outside.Goals as goal

pub returns-then-uses-ne0 : goal.returns-then-uses-ne0
returns-then-uses-ne0 c u e f = c.if-uses-ne0.true (omega (arith, c.uses.ensures, outside-unused c.args.count (term_of c.args.term.now) u (omega (arith, c.if-count-gt0.true)) e))

pub strengthen-requires : goal.strengthen-requires
strengthen-requires c = subst HasRoom (sym c.in_ok-copied.ensures) (room-small (c.args.ctx.now.depth + c.args.count) (term_of c.args.term.now) (well_formed-Core c.args.term.now) c.requires.inside)

pub defined-requires : goal.defined-requires
defined-requires c = record {
  inside = inside-outside c.args.ctx.now.depth c.args.count (term_of c.args.term.now) (term_of c.in-Some.lowered)
      (sym c.in_ok-copied.ensures ∙ subst (IsOutside c.args.count (term_of c.in_ok-copied.copied)) c.in-Some.is c.in_ok-lowered.ensures) c.requires.inside;
}

pub returns-in_ok-found-in-Some : goal.returns-in_ok-found-in-Some
returns-in_ok-found-in-Some c =
    tells-outside (ranges_of c.args.ctx.now) (context_of c.args.ctx.now) c.args.count (term_of c.args.term.now) (term_of c.in-Some.lowered) c.in_ok-found-in-Some.found (well_formed-Core c.args.term.now)
    (sym c.in_ok-copied.ensures ∙ subst (IsOutside c.args.count (term_of c.in_ok-copied.copied)) c.in-Some.is c.in_ok-lowered.ensures)
    c.in_ok-found-in-Some.ensures.sound c.in_ok-found-in-Some.ensures.strong
