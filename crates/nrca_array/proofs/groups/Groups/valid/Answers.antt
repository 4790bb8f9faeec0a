use Rattle.std.proofs.Common.{◌<◌, ◌^◌, map, subst}
use Rattle.std.specs.List.{All}
use Rattle.aql_value.specs.Datum.{data_of}
use Rattle.aql_value.specs.Valid.{AreValues}
use Rattle.nrca_array.specs.Groups.{numbers_set}
use Rattle.nrca_array.proofs.GroupsKept.{groups_valid}
use Rattle.nrca_array.proofs.groups.Groups.valid.Goals as goal

pub returns : goal.returns
returns c =
    subst (λ gs. AreValues (data_of (map numbers_set gs))) c.self.view_is
    (groups_valid c.self.inside.count c.self.inside.starts.items c.self.inside.members.items c.self.invariant
    (subst (λ ns. All (λ n. n < 2 ^ 64) ns) c.deref.ensures.value c.numbers_fit.ensures))
