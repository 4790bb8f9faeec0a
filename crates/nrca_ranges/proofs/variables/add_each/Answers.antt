use Rattle.std.proofs.Common.{ap, ◌∙◌, arith}
use Rattle.nrca_ranges.specs.Transfer.{index_below}
use Rattle.nrca_ranges.proofs.Entries.{index-more}
use Rattle.nrca_ranges.proofs.variables.add_each.Goals as goal

pub loop-bound-preserved : goal.loop-bound-preserved
loop-bound-preserved c =
    index-more c.args.shapes.now.items c.loop-bound.shapes.items c.push.new.self.items c.args.told.now c.loop-bound.bound-index c.bound-item.result c.index_shape.result (omega (arith, c.loop-bound-test.true)) c.bound-item.is
    (c.index_shape.ensures ∙ ap index_below c.number_interval.ensures) c.loop-bound.invariant c.in_ok-push.ensures.items
