use Rattle.std.proofs.Common.{take, map}
use Rattle.nrca_term.specs.View.{term_of}
use Rattle.nrca_ranges.specs.Exact.{AreExactNumbers}
use Rattle.nrca_ranges.specs.Shapes.{AreNumbersIn}
use Rattle.nrca_ranges.proofs.finding.numbers_of.Given as goal

abbrev pub invariant-loop-term : goal.invariant-loop-term
invariant-loop-term l =
    let ts = map term_of (take l.term-index l.term-items) in
    AreNumbersIn l.ctx ts l.intervals.items × AreExactNumbers l.ctx ts l.intervals.items
