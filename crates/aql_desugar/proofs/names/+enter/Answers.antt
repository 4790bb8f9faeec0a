use Rattle.aql_desugar.specs.Laws.Scopes.{goes_on, extends_all}
use Rattle.aql_desugar.proofs.Scoping.{enter_inside}
use Rattle.aql_desugar.proofs.names.+enter.Goals as goal

pub enter_all-loop-p-preserved : goal.enter_all-loop-p-preserved
enter_all-loop-p-preserved t c = record {
  inside = enter_inside (λ x. x.now) c.args.ps.now c.loop-p.p-index c.p-item.result c.args.names.now.items c.loop-p.names.items c.push.new.self.items c.enter.new.names.items c.loop-p-test.true
      c.p-item.is c.in_ok-push.ensures.items c.in_ok-enter.ensures.inside c.loop-p.invariant.inside;
  around = extends_all c.args.names.now.items c.push.new.self.items c.enter.new.names.items c.in_ok-enter.ensures.around
      (goes_on c.args.names.now.items c.loop-p.names.items c.push.new.self.items _ c.in_ok-push.ensures.items c.loop-p.invariant.around);
}
