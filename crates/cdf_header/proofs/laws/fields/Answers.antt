use Rattle.cdf_header.specs.Laws.Header.{reading-answered, answered-reading}
use Rattle.cdf_header.proofs.laws.fields.Goals as goal

pub returns-clause-answered : goal.returns-clause-answered
returns-clause-answered c = reading-answered

pub returns-clause-read : goal.returns-clause-read
returns-clause-read c = answered-reading
