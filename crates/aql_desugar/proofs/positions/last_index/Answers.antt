use Rattle.std.proofs.Common.{ap, ◌∙◌}
use Rattle.aql_names.specs.Named.{last_named}
use Rattle.aql_desugar.proofs.Finding.{index_inside}
use Rattle.aql_desugar.proofs.positions.last_index.Goals as goal

pub returns-clause-last : goal.returns-clause-last
returns-clause-last c = c.latest_before.ensures ∙ ap (last_named c.args.name.now) c.requires.named

pub returns-clause-inside : goal.returns-clause-inside
returns-clause-inside c =
    index_inside c.args.name.now c.args.decls.now c.latest_before.result (c.latest_before.ensures ∙ ap (last_named c.args.name.now) c.requires.named)
