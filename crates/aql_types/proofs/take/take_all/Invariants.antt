use Rattle.std.proofs.Common.{◌+◌, length}
use Rattle.aql_types.specs.Forms.{forms}
use Rattle.aql_types.specs.Steps.{Leads, potential}
use Rattle.aql_types.proofs.take.take_all.Given as goal

abbrev pub invariant-loop-e : goal.invariant-loop-e
invariant-loop-e l = Leads (forms l.ps l.fn.ns) (forms l.ps l.ns) l.fn.work.items l.work.items

abbrev pub decreases-loop-e : goal.decreases-loop-e
decreases-loop-e l = potential (forms l.ps l.ns) + length l.work.items
