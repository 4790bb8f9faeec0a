use Rattle.std.proofs.Common.{refl}
use Rattle.aql_desugar.specs.Laws.Scopes.{goes_on}
use Rattle.aql_desugar.proofs.Querying.{axis_next}
use Rattle.aql_desugar.proofs.queries.enter_binds.Goals as goal

pub loop-b-preserved : goal.loop-b-preserved
loop-b-preserved c = record {
  inside = axis_next (λ x. x.now) c.args.binds.now c.loop-b.b-index c.b-item.result _ c.args.names.now.items c.loop-b.names.items c.push.new.self.items c.loop-b-test.true c.b-item.is refl
      c.in_ok-push.ensures.items c.loop-b.invariant.inside;
  around = goes_on c.args.names.now.items c.loop-b.names.items c.push.new.self.items _ c.in_ok-push.ensures.items c.loop-b.invariant.around;
}
