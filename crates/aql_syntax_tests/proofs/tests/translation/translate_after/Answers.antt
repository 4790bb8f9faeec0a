use Rattle.std.proofs.Common.{◌∙◌}
use Rattle.aql_desugar.proofs.Translating.{query_last}
use Rattle.aql_syntax_tests.proofs.tests.translation.translate_after.Goals as goal

pub translate-made-requires-clause-query : goal.translate-made-requires-clause-query
translate-made-requires-clause-query c =
    query_last c.args.earlier.items c.push.new.self.items c.args.e c.len-n.result c.in_ok-push.ensures.items (c.len-n.ensures ∙ c.push.new.self.ok.0)
