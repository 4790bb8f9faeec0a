use Rattle.std.proofs.Common.{ap, sym, ◌∙◌}
use Rattle.aql_syntax.specs.View.{defs_in}
use Rattle.aql_syntax.specs.Laws.View.{defs_of-items}
use Rattle.aql_syntax.proofs.build.bindings_in.Goals as goal

pub returns : goal.returns
returns c = ap defs_in c.deref.ensures.value ∙ sym (defs_of-items c.args.binds.now)
