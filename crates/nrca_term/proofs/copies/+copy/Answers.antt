use Rattle.std.proofs.Common.{arith, sym, ◌∙◌}
use Rattle.nrca_term.specs.Term.{parts_of}
use Rattle.nrca_term.specs.Laws.Measure.{weight_of-child}
use Rattle.nrca_term.specs.View.{term_of}
use Rattle.nrca_term.proofs.Filling.{filled-start, filled-step, filled-end, count-filled}
use Rattle.nrca_term.proofs.copies.+copy.Goals as goal
use Rattle.nrca_term.specs.Laws.Entering.{child-there}

pub fill_parts-loop-i-init : goal.fill_parts-loop-i-init
fill_parts-loop-i-init t c = filled-start (term_of c.args.from.now) (term_of c.args.to.now) c.requires

pub copy_in-fill_parts-requires : goal.copy_in-fill_parts-requires
copy_in-fill_parts-requires t c = (omega (arith, c.decreases), c.in_ok-put_shell.ensures)

pub fill_parts-copy_in-requires : goal.fill_parts-copy_in-requires
fill_parts-copy_in-requires t c =
    (omega (arith, c.decreases, weight_of-child (term_of c.args.from.now) c.loop-i.i (term_of c.in-Some.source.now) (sym c.in-Some.ensures)), tt)

pub fill_parts-exchange-requires : goal.fill_parts-exchange-requires
fill_parts-exchange-requires t c =
    omega (arith, count-filled c.loop-i.i (term_of c.args.from.now) (term_of c.loop-i.to) c.loop-i.invariant, c.parts-i-end.ensures, c.loop-i-test.true)

pub fill_parts-unreachable-requires : goal.fill_parts-unreachable-requires
fill_parts-unreachable-requires t c =
    child-there (parts_of (term_of c.args.from.now)) c.loop-i.i (omega (arith, c.loop-i-test.true, c.parts-i-end.ensures)) c.in-None.ensures

pub fill_parts-loop-i-preserved : goal.fill_parts-loop-i-preserved
fill_parts-loop-i-preserved t c =
    c.exchange.ensures.now
    ∙ filled-step c.loop-i.i (term_of c.args.from.now) (term_of c.loop-i.to) (term_of c.in-Some.source.now) (term_of c.copy_in.new.to) c.loop-i.invariant (sym c.in-Some.ensures) c.in-Ok.ensures

pub fill_parts-returns : goal.fill_parts-returns
fill_parts-returns t c =
    filled-end c.loop-i.i (term_of c.args.from.now) (term_of c.loop-i.to) c.loop-i.invariant (omega (arith, c.loop-i.auto.i-end, c.loop-i-test.false, c.parts-i-end.ensures))
