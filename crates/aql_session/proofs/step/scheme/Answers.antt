use Rattle.std.proofs.Common.{length, ap, arith}
use Rattle.aql_session.proofs.Running.{length-sorts_of}
use Rattle.aql_session.proofs.step.scheme.Goals as goal

pub scheme_at-requires-clause-last : goal.scheme_at-requires-clause-last
scheme_at-requires-clause-last c = omega (arith, c.requires.last, length-sorts_of c.args.typed.now.items.items, ap length c.deref.ensures.value)
