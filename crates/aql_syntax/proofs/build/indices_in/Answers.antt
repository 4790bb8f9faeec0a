use Rattle.std.proofs.Common.{ap, sym, ◌∙◌}
use Rattle.aql_syntax.specs.View.{axes_in}
use Rattle.aql_syntax.specs.Laws.View.{axes_of-items}
use Rattle.aql_syntax.proofs.build.indices_in.Goals as goal

pub returns : goal.returns
returns c = ap axes_in c.deref.ensures.value ∙ sym (axes_of-items c.args.binds.now)
