use Rattle.std.proofs.Common.{◌∙◌}
use Rattle.aql_names.proofs.Positions.{last-by_length}
use Rattle.aql_names.proofs.names.last.Goals as goal

pub returns : goal.returns
returns c = c.copied.ensures ∙ c.last.ensures.value ∙ last-by_length c.args.positions.now
