use Rattle.std.proofs.Common.{ap}
use Rattle.aql_syntax.specs.Tree as tree
use Rattle.aql_syntax.specs.Laws.View.{pat_row-vec}
use Rattle.aql_syntax.proofs.build.tuple_pattern.Goals as goal

pub returns : goal.returns
returns c = ap tree.tuple (pat_row-vec c.args.items)
