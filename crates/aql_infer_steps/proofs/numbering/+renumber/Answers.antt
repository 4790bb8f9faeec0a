use Rattle.aql_infer_steps.specs.Numbering.{renumbering}
use Rattle.aql_infer_steps.proofs.Lists.{apply_more}
use Rattle.aql_infer_steps.proofs.numbering.+renumber.Goals as goal

pub renumber_all-loop-t-preserved : goal.renumber_all-loop-t-preserved
renumber_all-loop-t-preserved t c =
    apply_more (renumbering c.args.names.now) _ _ _ c.t-item.result c.args.ts.now c.loop-t.t-index _ c.loop-t-test.true c.t-item.is c.in_ok-one.ensures c.in_ok-push.ensures.items c.loop-t.invariant
