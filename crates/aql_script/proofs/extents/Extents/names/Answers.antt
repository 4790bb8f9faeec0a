use Rattle.std.proofs.Common.{◌∙◌}
use Rattle.aql_script.proofs.Entries.{names-kept}
use Rattle.aql_script.proofs.extents.Extents.names.Goals as goal

pub returns : goal.returns
returns c = λ ds e. names-kept c.self.inside.names c.self.inside.added.items ds c.self.invariant (c.self.view_is ∙ e)
