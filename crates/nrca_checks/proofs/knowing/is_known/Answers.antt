use Rattle.std.proofs.Common.{sym, subst}
use Rattle.nrca_term.specs.View.{term_of}
use Rattle.nrca_ranges.specs.Context.{known_of, facts_in}
use Rattle.nrca_checks.specs.Knowing.{IsAmong}
use Rattle.nrca_checks.proofs.Known.{none-left}
use Rattle.nrca_checks.proofs.knowing.is_known.Goals as goal

pub returns : goal.returns
returns c = (
  (λ e. cc),
  (λ h. absurd (none-left (known_of c.args.known) c.args.ctx.now.depth (term_of c.args.term.now) c.deref-fact-items.result.now c.loop-fact.fact-index c.loop-fact-test.false
      (c.loop-fact.invariant.0 (subst (λ fs. IsAmong (known_of c.args.known) c.args.ctx.now.depth (term_of c.args.term.now) (facts_in fs)) (sym c.deref-fact-items.ensures.value) h)))),
)
