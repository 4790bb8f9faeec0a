use Rattle.std.proofs.Common.{◌≡◌, length}
use Rattle.aql_syntax.specs.Names.{find}
use Rattle.aql_infer_steps.specs.View.{locals_of}
use Rattle.aql_infer_steps.proofs.names.find_local.Given as goal

abbrev pub invariant-loop-last : goal.invariant-loop-last
invariant-loop-last l = find l.x (locals_of l.positions l.rest) ≡ find l.x (locals_of l.positions l.env)

abbrev pub decreases-loop-last : goal.decreases-loop-last
decreases-loop-last l = length l.rest
