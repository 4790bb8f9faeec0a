use Rattle.aql_parse_spec.specs.Laws.Scripts.{reading, fault, either}
use Rattle.aql_parse_spec.proofs.laws.one_reading.Goals as goal

pub returns-clause-reading : goal.returns-clause-reading
returns-clause-reading c = reading

pub returns-clause-fault : goal.returns-clause-fault
returns-clause-fault c = fault

pub returns-clause-either : goal.returns-clause-either
returns-clause-either c = either
