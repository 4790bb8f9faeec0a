-- The parts are seen in the list as in the tuple.
use Rattle.std.proofs.Common.{ap}
use Rattle.aql_ty.specs.Types as types
use Rattle.aql_ty.specs.Laws.View.{row_of-vec}
use Rattle.aql_ty.proofs.ty.row.Goals as goal

pub returns : goal.returns
returns c = ap types.product (row_of-vec c.args.items)
