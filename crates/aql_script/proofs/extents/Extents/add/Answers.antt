use Rattle.std.proofs.Common.{◌∷◌, Some, ap, ◌∙◌}
use Rattle.aql_syntax.specs.Kept.{extent_in}
use Rattle.aql_script.specs.Entries.{entries}
use Rattle.aql_script.proofs.Entries.{entries-last}
use Rattle.aql_script.proofs.extents.Extents.add.Goals as goal

pub returns-in-Ok-clause-pushed : goal.returns-in-Ok-clause-pushed
returns-in-Ok-clause-pushed c =
    ap (λ xs. entries xs c.push.new.self.items) c.in-Ok.ensures.pushed ∙ ap (entries _) c.in_ok-push.ensures.items
    ∙ entries-last c.self.inside.names c.self.inside.added.items c.args.name.now c.args.added c.self.invariant
    ∙ ap (λ ms. (c.args.name.now, Some (extent_in c.args.added)) ∷ ms) c.self.view_is
