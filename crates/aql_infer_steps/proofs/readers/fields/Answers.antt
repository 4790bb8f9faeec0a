use Rattle.aql_infer_steps.proofs.Lists.{fields_more}
use Rattle.aql_infer_steps.proofs.readers.fields.Goals as goal

pub loop-k-preserved : goal.loop-k-preserved
loop-k-preserved c = fields_more _ _ _ c.args.kinds.now c.loop-k.k-index _ _ c.loop-k-test.true c.field.ensures c.in_ok-push.ensures.items c.loop-k.invariant
