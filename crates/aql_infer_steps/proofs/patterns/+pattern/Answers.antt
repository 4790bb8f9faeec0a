use Rattle.aql_infer_steps.specs.View.{schemes_of}
use Rattle.aql_infer_steps.proofs.Growing.{pats_more}
use Rattle.aql_infer_steps.proofs.patterns.+pattern.Goals as goal
use Rattle.aql_infer_steps.specs.Laws.Growing.{extends_extends}

pub patterns-loop-p-preserved : goal.patterns-loop-p-preserved
patterns-loop-p-preserved t c = record {
  made = pats_more c.args.positions.now c.args.ps.now c.loop-p.p-index c.p-item.result (schemes_of c.args.positions.now) _ _ _ _ _ _ _ _ c.loop-p-test.true c.p-item.is
      c.in_ok-t.ensures.made c.in_ok-push.ensures.items c.loop-p.invariant.made;
  extends = extends_extends _ _ _ c.loop-p.invariant.extends c.in_ok-t.ensures.extends;
}
