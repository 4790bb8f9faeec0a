-- The parts are seen in the list as in the tuple.
use Rattle.std.proofs.Common.{ap}
use Rattle.aql_ty.specs.Types as types
use Rattle.aql_infer_steps.proofs.Sketching.{row-vec}
use Rattle.aql_infer_steps.proofs.sketch.tuple_of.Goals as goal

pub returns : goal.returns
returns c = ap types.product (row-vec c.args.positions.now c.args.items)
