use Rattle.aql_infer_steps.specs.View.{schemes_of}
use Rattle.aql_infer_steps.proofs.Growing.{index_more}
use Rattle.aql_infer_steps.proofs.patterns.index_parts.Goals as goal
use Rattle.aql_infer_steps.specs.Laws.Growing.{extends_extends}

pub loop-p-preserved : goal.loop-p-preserved
loop-p-preserved c = record {
  made = index_more c.args.ps.now c.loop-p.p-index c.p-item.result (schemes_of c.args.positions.now) _ _ _ _ _ _ _ c.loop-p-test.true c.p-item.is
      c.in_ok-of.ensures.made c.in_ok-s.ensures c.loop-p.invariant.made;
  extends = extends_extends _ _ _ c.loop-p.invariant.extends c.in_ok-of.ensures.extends;
}
