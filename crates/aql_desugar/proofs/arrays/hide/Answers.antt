use Rattle.aql_desugar.specs.Laws.Scopes.{goes_on}
use Rattle.aql_desugar.proofs.Looping.{hidden_next}
use Rattle.aql_desugar.proofs.arrays.hide.Goals as goal

pub loop-i-preserved : goal.loop-i-preserved
loop-i-preserved c = record {
  inside = hidden_next (λ x. x.now) c.args.n c.loop-i.i c.args.names.now.items c.loop-i.names.items c.push.new.self.items c.loop-i-test.true c.in_ok-push.ensures.items c.loop-i.invariant.inside;
  around = goes_on c.args.names.now.items c.loop-i.names.items c.push.new.self.items _ c.in_ok-push.ensures.items c.loop-i.invariant.around;
}
