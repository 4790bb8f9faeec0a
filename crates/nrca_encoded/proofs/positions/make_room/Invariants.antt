use Rattle.std.specs.Prelude.{◌≡◌, ◌-◌, length}
use Rattle.nrca_encoded.specs.Encodings.{outcomes_in, ReachesTo, SameOutcomes}
use Rattle.nrca_encoded.proofs.positions.make_room.Given as goal

abbrev pub invariant-places : goal.invariant-places
invariant-places l = record {
  same : SameOutcomes (outcomes_in l.initial.list.items) (outcomes_in l.list.items);
  few : ReachesTo l.n (outcomes_in l.initial.list.items) (outcomes_in l.list.items);
}

abbrev pub decreases-places : goal.decreases-places
decreases-places l = l.n - length l.list.items
