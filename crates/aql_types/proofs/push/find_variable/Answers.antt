use Rattle.aql_types.specs.Laws.Pushing.{found}
use Rattle.aql_types.proofs.push.find_variable.Goals as goal

pub returns-then-x-g : goal.returns-then-x-g
returns-then-x-g c = found c.args.x c.args.g c.requires c.if-x-g.true
