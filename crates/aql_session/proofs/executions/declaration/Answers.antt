use Rattle.std.proofs.Common.{length, ap, arith}
use Rattle.aql_syntax.specs.Laws.View.{length-decls_of}
use Rattle.aql_session.proofs.executions.declaration.Goals as goal

pub declaration_at-requires-clause-last : goal.declaration_at-requires-clause-last
declaration_at-requires-clause-last c = omega (arith, c.requires.last, length-decls_of c.args.decls.now.items.items, ap length c.deref.ensures.value)
