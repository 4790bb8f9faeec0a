use Rattle.aql_types.specs.Laws.Pushing.{kept_numbered, next_equation}
use Rattle.aql_types.proofs.push.push_equations.Goals as goal

pub loop-e-preserved : goal.loop-e-preserved
loop-e-preserved c =
    let h = c.loop-e.invariant in
    record {
      numbered = kept_numbered c.in_ok-one.more c.loop-e.g c.in_ok-one.ensures.extends h.numbered;
      pushes = next_equation c.loop-e.made.items c.push.new.self.items c.in_ok-one.one c.in_ok-one.more c.loop-e.g c.args.g c.loop-e.yielded c.in-Some.e
          c.in_ok-push.ensures.items h.pushes c.in_ok-one.ensures;
    }
