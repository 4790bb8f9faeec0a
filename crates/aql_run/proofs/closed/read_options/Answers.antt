use Rattle.std.specs.Prelude.{map}
use Rattle.std.specs.String.{string_bytes}
use Rattle.aql_run.proofs.Endings.{asked}
use Rattle.aql_run.proofs.closed.read_options.Goals as goal

pub returns-clause-asks : goal.returns-clause-asks
returns-clause-asks c = asked (map string_bytes c.args.words.now) c.read_words.result c.read_words.ensures.read c.read_words.ensures.usage
