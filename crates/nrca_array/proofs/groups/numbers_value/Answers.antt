use Rattle.std.proofs.Common.{sym, subst}
use Rattle.aql_value.specs.Canon.{IsAscending}
use Rattle.nrca_array.proofs.GroupsKept.{numbers_ascending}
use Rattle.nrca_array.proofs.groups.numbers_value.Goals as goal

pub ascending-requires : goal.ascending-requires
ascending-requires c = subst IsAscending (sym c.in_ok-items.ensures) (numbers_ascending c.args.numbers.now c.requires)
