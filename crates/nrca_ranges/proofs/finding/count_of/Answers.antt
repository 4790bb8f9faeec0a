use Rattle.nrca_term.specs.View.{term_of}
use Rattle.nrca_ranges.specs.Shapes.{bounds_of}
use Rattle.nrca_ranges.specs.Laws.Sound.{count-in}
use Rattle.nrca_ranges.proofs.finding.count_of.Goals as goal

pub returns-clause-holds : goal.returns-clause-holds
returns-clause-holds c = count-in c.args.ctx.now (term_of c.args.term.now) (bounds_of c.in_ok-told.told) c.count_interval-interval.result c.count_interval-interval.ensures c.in_ok-told.ensures.holds
