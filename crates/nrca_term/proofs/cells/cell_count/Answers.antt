use Rattle.std.proofs.Common.{◌≡◌, arith, take, Some, ◌+◌, sym, subst, ◌∙◌}
use Rattle.std.specs.Prelude.{IfSome}
use Rattle.nrca_term.specs.Nodes.{number}
use Rattle.nrca_term.specs.View.{term_of, terms_of}
use Rattle.nrca_term.specs.Laws.Equations.{length-terms_of}
use Rattle.nrca_term.proofs.CellCounts.{count-none, count-step, count-whole}
use Rattle.nrca_term.specs.Laws.Lists.{item-is, no-number}
use Rattle.nrca_term.specs.Cells.{CountsCells}
use Rattle.nrca_term.proofs.cells.cell_count.Goals as goal

pub loop-i-preserved : goal.loop-i-preserved
loop-i-preserved c = subst (λ a. CountsCells (take (c.loop-i.i + 1) (terms_of c.args.dims.now)) (Some a)) (sym c.saturating_mul-all.ensures)
    (count-step (terms_of c.args.dims.now) c.loop-i.i c.loop-i.all c.in-Some.n (term_of c.index.result.now) (omega (arith, length-terms_of c.args.dims.now, c.len-i-end.ensures)) (item-is c.args.dims.now.0.items c.loop-i.i c.index.result.now c.index.ensures) (subst (λ o. IfSome o (λ n. term_of c.index.result.now ≡ number n)) c.in-Some.is c.number.ensures.whole) c.loop-i.invariant)

pub returns-in-None : goal.returns-in-None
returns-in-None c = count-none (terms_of c.args.dims.now) c.loop-i.i (term_of c.index.result.now) (omega (arith, length-terms_of c.args.dims.now, c.len-i-end.ensures)) (item-is c.args.dims.now.0.items c.loop-i.i c.index.result.now c.index.ensures) (no-number (term_of c.index.result.now) (sym c.number.ensures.which ∙ c.in-None.is))

pub returns : goal.returns
returns c = count-whole (terms_of c.args.dims.now) c.loop-i.i c.loop-i.all (omega (arith, length-terms_of c.args.dims.now, c.len-i-end.ensures)) c.loop-i.invariant
