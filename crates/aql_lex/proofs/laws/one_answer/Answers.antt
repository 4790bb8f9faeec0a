use Rattle.aql_lex.proofs.OneAnswer.{one_list, one_text, tokens_or_text}
use Rattle.aql_lex.proofs.Deep.{one_deep, shallow_or_deep}
use Rattle.aql_lex.proofs.laws.one_answer.Goals as goal

pub returns-clause-list : goal.returns-clause-list
returns-clause-list c = one_list

pub returns-clause-text : goal.returns-clause-text
returns-clause-text c = one_text

pub returns-clause-either : goal.returns-clause-either
returns-clause-either c = tokens_or_text

pub returns-clause-deep : goal.returns-clause-deep
returns-clause-deep c = one_deep

pub returns-clause-shallow : goal.returns-clause-shallow
returns-clause-shallow c = shallow_or_deep
