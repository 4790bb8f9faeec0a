use Rattle.std.proofs.Common.{length, sym, ap, ◌∙◌}
use Rattle.aql_syntax.specs.Laws.View.{length-decls_of}
use Rattle.aql_prelude.proofs.prelude.Goals as goal

pub returns-clause-count : goal.returns-clause-count
returns-clause-count c = sym (length-decls_of c.in_ok-items.items.items) ∙ ap length c.in_ok-items.ensures
