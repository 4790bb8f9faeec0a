use Rattle.aql_run.specs.Complete.{Tokenised}
use Rattle.aql_run.proofs.laws.tokens_exist.Goals as goal

pub returns : goal.returns
unfolding Tokenised
returns c = (c.one_answer.ensures.list, c.one_answer.ensures.either, c.one_answer.ensures.shallow)
