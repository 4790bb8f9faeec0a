use Rattle.nrca_ranges.proofs.Gathering.{shape-taken}
use Rattle.nrca_ranges.proofs.walk.take_shapes.Goals as goal

pub loop-told-preserved : goal.loop-told-preserved
loop-told-preserved c = shape-taken c.loop-told.yielded c.in-Some.told c.loop-told.shapes.items c.push.new.self.items c.loop-told.invariant c.in_ok-push.ensures.items
