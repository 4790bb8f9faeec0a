use Rattle.std.proofs.Common.{◌↔◌, drop}
use Rattle.nrca_term.specs.View.{term_of}
use Rattle.nrca_ranges.specs.Context.{known_of, facts_in}
use Rattle.nrca_checks.specs.Knowing.{IsAmong}
use Rattle.nrca_checks.proofs.knowing.is_known.Given as goal

abbrev pub invariant-loop-fact : goal.invariant-loop-fact
invariant-loop-fact l = IsAmong (known_of l.known) l.ctx.depth (term_of l.term) (facts_in l.fact-items) ↔ IsAmong (known_of l.known) l.ctx.depth (term_of l.term) (facts_in (drop l.fact-index l.fact-items))
