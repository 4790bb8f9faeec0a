use Rattle.aql_infer_steps.proofs.Lists.{equate_more}
use Rattle.aql_infer_steps.proofs.operations.equal_each.Goals as goal

pub loop-one-preserved : goal.loop-one-preserved
loop-one-preserved c = equate_more c.args.positions.now c.args.ts.now c.loop-one.one-index c.one-item.result _ _ _ _ c.loop-one-test.true c.one-item.is c.in_ok-s.ensures c.loop-one.invariant
