use Rattle.std.proofs.Common.{subst}
use Rattle.nrca_term.specs.View.{term_of}
use Rattle.nrca_ranges.specs.Context.{context_of}
use Rattle.nrca_rule_laws.specs.Fitting.{RuleFits}
use Rattle.nrca_normal.specs.Laws.Conditions.{refused-unfit, tells-rule}
use Rattle.nrca_ranges.specs.Shapes.{ranges_of}
use Rattle.nrca_normal.proofs.firing.fires.Goals as goal

pub returns-then-not-fits-clause-told : goal.returns-then-not-fits-clause-told
returns-then-not-fits-clause-told c = refused-unfit (ranges_of c.args.ctx.now) (context_of c.args.ctx.now) (term_of c.args.term.now) c.args.rule c.if-not-fits.ensures

pub returns-clause-told : goal.returns-clause-told
returns-clause-told c = tells-rule c.args.ctx.now c.args.rule (term_of c.args.term.now) c.ways_of-ways.result c.in_ok-found.found c.requires.plain (subst (λ b. RuleFits c.args.rule b (term_of c.args.term.now)) c.if-not-fits.false c.fits.ensures) c.ways_of-ways.ensures.ways c.in_ok-found.ensures.told
