use Rattle.std.proofs.Common.{refl, arith}
use Rattle.std.proofs.lemmas.Grind.{common_steps}
use Rattle.aql_print.specs.ValueText.{byte_text}
use Rattle.aql_print.specs.Laws.Prefix.{prefix_at, prefix_whole}
use Rattle.aql_print.proofs.bytes.put_escaped.Goals as goal

pub returns-in_err-put_byte-clause-prefix : goal.returns-in_err-put_byte-clause-prefix
returns-in_err-put_byte-clause-prefix c = prefix_at byte_text c.args.bytes.now c.loop-b.b-index _ 0 _ _ _ c.put_byte.ensures.prefix c.loop-b.invariant c.loop-b-test.true refl

pub returns-clause-prefix : goal.returns-clause-prefix
returns-clause-prefix c = prefix_whole _ _ _ (grind (arith, common_steps))
