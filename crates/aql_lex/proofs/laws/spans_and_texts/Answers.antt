use Rattle.aql_lex.proofs.Covering.{spans_and_texts}
use Rattle.aql_lex.proofs.laws.spans_and_texts.Goals as goal

pub returns : goal.returns
returns c = spans_and_texts
