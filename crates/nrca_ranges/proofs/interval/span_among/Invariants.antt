use Rattle.std.proofs.Common.{◌≡◌, drop}
use Rattle.nrca_term.specs.Firm as firm
use Rattle.nrca_ranges.specs.Context.{facts_in}
use Rattle.nrca_ranges.proofs.interval.span_among.Given as goal

abbrev pub invariant-loop-fact : goal.invariant-loop-fact
invariant-loop-fact l = firm.variable_span l.depth l.i (facts_in l.facts) ≡ firm.variable_span l.depth l.i (facts_in (drop l.fact-index l.facts))
