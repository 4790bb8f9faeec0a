use Rattle.std.proofs.Common.{◌≡◌, ◌+◌, ◌*◌, take}
use Rattle.aql_ty.specs.View.{types_of}
use Rattle.aql_types.specs.Shapes.{types_at}
use Rattle.aql_types.specs.Forms.{forms}
use Rattle.aql_types.specs.Extents.{read}
use Rattle.aql_types.proofs.read.+read.Given as goal

abbrev pub decreases-read : goal.decreases-read
decreases-read l = 3 * l.left

abbrev pub decreases-read_all : goal.decreases-read_all
decreases-read_all l = 3 * l.left + 1

abbrev pub decreases-read_node : goal.decreases-read_node
decreases-read_node l = 3 * l.left + 2

abbrev pub invariant-read_all-loop-p : goal.invariant-read_all-loop-p
invariant-read_all-loop-p l = types_of l.made.items ≡ types_at (read l.left (forms l.ps l.ns)) (take l.p-index l.parts)
