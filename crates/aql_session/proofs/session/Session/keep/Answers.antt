use Rattle.aql_session.proofs.session.Session.keep.Goals as goal

pub returns-in-Ok-clause-answer : goal.returns-in-Ok-clause-answer
returns-in-Ok-clause-answer c = λ d e. c.in_ok-answer.ensures.answer d e
