use Rattle.aql_script.proofs.Causes.{one_cause}
use Rattle.aql_script.proofs.laws.one_cause.Goals as goal

pub returns : goal.returns
returns c = one_cause (record {
  list = c.one_answer.ensures.list;
  text = c.one_answer.ensures.text;
  either = c.one_answer.ensures.either;
  deep = c.one_answer.ensures.deep;
  shallow = c.one_answer.ensures.shallow;
  reading = c.one_reading.ensures.reading;
  fault = c.one_reading.ensures.fault;
  both = c.one_reading.ensures.either;
})
