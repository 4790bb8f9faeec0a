use Rattle.nrca_ranges.specs.Shapes.{bounds_of}
use Rattle.nrca_ranges.specs.Laws.Sound.{shape-is}
use Rattle.nrca_ranges.specs.Laws.Summaries.{walk-told}
use Rattle.nrca_ranges.proofs.finding.tell.Goals as goal

pub returns-clause-told : goal.returns-clause-told
returns-clause-told c =
    walk-told c.args.ctx.now c.args.term.now (record { facts = c.new.result; variables = c.new-2.result; told = c.new-3.result }) c.walk.new.progress c.remove.result c.new.ensures.items c.new-2.ensures.items c.new-3.ensures.items c.in_ok-walk.ensures.told c.remove.ensures.value

pub returns-clause-holds : goal.returns-clause-holds
returns-clause-holds c =
    shape-is c.args.ctx.now c.args.term.now (bounds_of c.remove.result.shape)
    (walk-told c.args.ctx.now c.args.term.now (record { facts = c.new.result; variables = c.new-2.result; told = c.new-3.result }) c.walk.new.progress c.remove.result c.new.ensures.items c.new-2.ensures.items c.new-3.ensures.items c.in_ok-walk.ensures.told c.remove.ensures.value).shape
