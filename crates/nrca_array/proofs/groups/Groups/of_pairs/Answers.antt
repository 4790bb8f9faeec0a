use Rattle.std.proofs.Common.{sym, subst, ◌∙◌}
use Rattle.nrca_array.specs.Groups.{groups_at, second_numbers, AreGroups}
use Rattle.nrca_array.specs.Laws.Groups.{runs_group, groups_are}
use Rattle.nrca_array.proofs.groups.Groups.of_pairs.Goals as goal

pub invariant_of-result : goal.invariant_of-result
invariant_of-result c =
    subst (AreGroups c.args.count c.in_ok-starts.starts.items) (sym c.in_ok-members.ensures)
    (subst (λ l. AreGroups c.args.count l (second_numbers c.args.pairs.now)) (sym c.in_ok-starts.ensures) (runs_group c.args.count c.args.pairs.now c.requires))

pub returns : goal.returns
returns c = (λ i. groups_at c.args.count (c.in_ok-starts.ensures i) (c.in_ok-members.ensures i)) ∙ groups_are c.args.count c.args.pairs.now c.requires
