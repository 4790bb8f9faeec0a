use Rattle.std.proofs.Common.{arith}
use Rattle.nrca_sets.specs.Laws.Runs.{firsts_rise, counted, not_counted, count_within}
use Rattle.nrca_sets.proofs.runs.skip.Goals as goal

pub loop-at-preserved : goal.loop-at-preserved
loop-at-preserved c = omega (arith, counted _ _ c.loop-at.at (0, 0) (firsts_rise _ c.requires.sorted) c.loop-at-test.true c.if-pairs-at.true)

pub returns-else-pairs-at : goal.returns-else-pairs-at
returns-else-pairs-at c =
    omega (arith, c.loop-at.invariant, not_counted c.args.below _ c.loop-at.at (0, 0) (firsts_rise _ c.requires.sorted) c.loop-at-test.true (omega (arith, c.if-pairs-at.false)))

pub returns-after-loop-at : goal.returns-after-loop-at
returns-after-loop-at c = omega (arith, c.loop-at.invariant, c.loop-at-test.false, count_within c.args.below c.args.pairs.now)
