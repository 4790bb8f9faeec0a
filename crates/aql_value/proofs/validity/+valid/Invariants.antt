use Rattle.std.proofs.Common.{take}
use Rattle.aql_value.specs.Datum.{data_of}
use Rattle.aql_value.specs.Valid.{AreValues}
use Rattle.aql_value.proofs.validity.+valid.Given as goal

abbrev pub decreases-valid : goal.decreases-valid
decreases-valid l = goal.size-valid l

abbrev pub decreases-all_valid : goal.decreases-all_valid
decreases-all_valid l = goal.size-all_valid l

abbrev pub invariant-all_valid-loop-x : goal.invariant-all_valid-loop-x
invariant-all_valid-loop-x l = AreValues (data_of (take l.x-index l.items))
