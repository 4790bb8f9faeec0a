use Rattle.aql_types.specs.Answers.{subst_of}
use Rattle.aql_infer_steps.proofs.Lists.{written_more}
use Rattle.aql_infer_steps.proofs.numbering.+write_type.Goals as goal

pub write_types-loop-t-preserved : goal.write_types-loop-t-preserved
write_types-loop-t-preserved t c =
    written_more (subst_of c.args.solution.now) c.args.positions.now _ _ _ c.t-item.result c.args.ts.now c.loop-t.t-index _ c.loop-t-test.true c.t-item.is c.in_ok-one.ensures c.in_ok-push.ensures.items
    c.loop-t.invariant
