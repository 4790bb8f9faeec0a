use Rattle.std.proofs.Common.{◌≡◌, ◌++◌, drop}
use Rattle.aql_infer_steps.specs.Typed.{sorts_of}
use Rattle.aql_infer.specs.Checked.{found_sorts}
use Rattle.aql_infer.proofs.check.schemes.Given as goal

abbrev pub invariant-loop-p : goal.invariant-loop-p
invariant-loop-p l = sorts_of l.made.items ++ found_sorts (drop l.p-index l.found) ≡ found_sorts l.found
