use Rattle.nrca_numbers.proofs.Slots.{members_more, members_still}
use Rattle.nrca_numbers.proofs.added.add_few.Goals as goal

pub returns-in_ok-two-in-One-Pair-clause-recent : goal.returns-in_ok-two-in-One-Pair-clause-recent
returns-in_ok-two-in-One-Pair-clause-recent c =
    let slots = c.args.recent.now.slots in
    members_still slots _ c.in_ok-two-in-One-Pair.field-0 c.in_ok-two-in-One-Pair.ensures (members_more slots c.args.members _ c.requires)
