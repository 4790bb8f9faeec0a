use Rattle.std.proofs.Common.{arith}
use Rattle.nrca_loops.proofs.Merged.{order_left, order_right}
use Rattle.nrca_loops.proofs.walk.order_of.Goals as goal

pub returns-else-j-count : goal.returns-else-j-count
returns-else-j-count c = order_left c.args.left.now c.args.right.now c.args.i c.args.j (omega arith) (omega arith)

pub returns-then-j-count-2 : goal.returns-then-j-count-2
returns-then-j-count-2 c = order_right c.args.left.now c.args.right.now c.args.i c.args.j (omega arith) (omega arith)
