use Rattle.aql_run.proofs.Endings.{readies}
use Rattle.aql_run.proofs.closed.prepare_script.Goals as goal

pub returns : goal.returns
returns c = readies c.args.script.now c.prepare.result c.prepare.ensures
