use Rattle.aql_prelude.specs.Laws.Typing.{prelude_typed}
use Rattle.aql_prelude.proofs.laws.is_typed.Goals as goal

-- src/laws.rt
pub returns : goal.returns
returns c = prelude_typed
