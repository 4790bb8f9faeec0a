use Rattle.std.proofs.Common.{arith}
use Rattle.nrca_encoded.proofs.Placing.{place-more, place-reach}
use Rattle.nrca_encoded.proofs.positions.make_room.Goals as goal

pub places-preserved : goal.places-preserved
places-preserved c = record {
  same = place-more c.args.n c.args.list.now.items c.places.list.items c.push.new.self.items c.places.invariant.same c.in_ok-push.ensures.items;
  few = place-reach c.args.n c.args.list.now.items c.places.list.items c.push.new.self.items c.places.invariant.few (omega (arith, c.places-test.true)) c.in_ok-push.ensures.items;
}
