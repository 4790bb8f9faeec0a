use Rattle.nrca_term.specs.View.{term_of}
use Rattle.nrca_ranges.specs.Shapes.{bounds_of}
use Rattle.nrca_ranges.specs.Laws.Sound.{number-in}
use Rattle.nrca_ranges.proofs.finding.number_of.Goals as goal

pub returns-clause-holds : goal.returns-clause-holds
returns-clause-holds c = number-in c.args.ctx.now (term_of c.args.term.now) (bounds_of c.in_ok-told.told) c.number_interval-interval.result c.number_interval-interval.ensures c.in_ok-told.ensures.holds
