use Rattle.std.proofs.Common.{◌≡◌, ◌++◌, map, take}
use Rattle.aql_value.specs.Canon.{canon}
use Rattle.aql_value.specs.Partial.{concat}
use Rattle.nrca_numbers.specs.Few.{few_members}
use Rattle.nrca_numbers.specs.Recent.{AreMembers}
use Rattle.nrca_numbers.proofs.added.add_all.Given as goal

abbrev pub invariant-loop-set : goal.invariant-loop-set
invariant-loop-set l = record {
  all : canon l.all ≡ canon (l.initial.all ++ concat (map few_members (take l.set-index l.sets)));
  recent : AreMembers l.recent.slots l.all;
}
