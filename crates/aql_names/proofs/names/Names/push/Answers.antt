use Rattle.std.proofs.Common.{◌∙◌, ◌++◌, ◌∷◌, [], ap}
use Rattle.aql_names.proofs.Positions.{index-pushed, names-pushed}
use Rattle.aql_names.proofs.names.Names.push.Goals as goal

pub invariant_of-self-in-Ok : goal.invariant_of-self-in-Ok
invariant_of-self-in-Ok c =
    let m = c.self.inside.positions in
    let numbers = c.self.inside.numbers.items in
    index-pushed m c.add_position.new.positions c.args.name.now c.in-Ok.k numbers c.push.new.self.items 0 c.len-n.result c.self.invariant (c.len-n.ensures ∙ c.self.inside.numbers.ok.0) c.in_ok-push.ensures.items c.in-Ok.ensures.added

pub returns-in-Ok-clause-pushed : goal.returns-in-Ok-clause-pushed
returns-in-Ok-clause-pushed c =
    let m = c.self.inside.positions in
    let numbers = c.self.inside.numbers.items in
    names-pushed m c.add_position.new.positions c.args.name.now c.in-Ok.k numbers c.push.new.self.items 0 c.len-n.result c.self.invariant (c.len-n.ensures ∙ c.self.inside.numbers.ok.0) c.in_ok-push.ensures.items c.in-Ok.ensures.added
    ∙ ap (λ l. l ++ c.args.name.now ∷ []) c.self.view_is
