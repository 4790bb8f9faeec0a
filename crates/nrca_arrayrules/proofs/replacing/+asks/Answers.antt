use Rattle.std.proofs.Common.{rules, true, ◌≡◌, arith, sym, subst}
use Rattle.nrca_term.specs.Term.{parts_of}
use Rattle.nrca_term.specs.View.{term_of}
use Rattle.nrca_term.specs.Laws.Measure.{weight_of-child}
use Rattle.nrca_term.specs.Laws.Entering.{child-there}
use Rattle.nrca_arrayrules.proofs.Asking.{asks-none, asks-some}
use Rattle.nrca_arrayrules.specs.Replacing.{AsksInPart}
use Rattle.nrca_arrayrules.proofs.replacing.+asks.Goals as goal

pub asks_in_part-asks_under-asked-requires : goal.asks_in_part-asks_under-asked-requires
asks_in_part-asks_under-asked-requires t c = (omega (arith, c.decreases, weight_of-child (term_of c.args.term.now) c.args.i (term_of c.in-Some.part.now) (sym c.in-Some.ensures)), tt)

pub asks_in_part-unreachable-requires : goal.asks_in_part-unreachable-requires
asks_in_part-unreachable-requires t c = absurd (child-there (parts_of (term_of c.args.term.now)) c.args.i c.requires (search rules))

pub asks_in_parts-returns-then-asks_in_part : goal.asks_in_parts-returns-then-asks_in_part
asks_in_parts-returns-then-asks_in_part t c =
    let q : c.asks_in_part.result ≡ true = search rules in
    asks-some c.args.at c.loop-i.i (term_of c.args.term.now) c.requires (omega (arith, c.parts-i-end.ensures)) (subst (AsksInPart c.args.at c.loop-i.i (term_of c.args.term.now)) q c.asks_in_part.ensures)

pub asks_in_parts-returns : goal.asks_in_parts-returns
asks_in_parts-returns t c = asks-none c.args.at c.loop-i.i (term_of c.args.term.now) c.requires (omega (arith, c.parts-i-end.ensures)) c.loop-i.invariant
