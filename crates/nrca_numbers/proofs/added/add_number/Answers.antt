use Rattle.aql_value.specs.Datum.{natural}
use Rattle.nrca_numbers.proofs.Slots.{member_already, members_put, members_still}
use Rattle.nrca_numbers.proofs.added.add_number.Goals as goal

pub returns-then-holds-clause-all : goal.returns-then-holds-clause-all
returns-then-holds-clause-all c =
    member_already (natural c.args.n) c.args.members (c.requires c.args.n (c.holds.ensures.0 c.if-holds.true))

pub returns-clause-recent : goal.returns-clause-recent
returns-clause-recent c =
    let put = members_put c.args.recent.now.slots c.put.new.self.slots c.args.n c.args.members c.put.ensures.others c.requires in
    members_still c.put.new.self.slots _ c.in_ok-one.field-0 c.in_ok-one.ensures put
