use Rattle.std.proofs.Common.{◌∙◌, ap, sym, subst, nat_lt, take, List, ℕ}
use Rattle.std.specs.List.Sorted.{IsPartitionedBy}
use Rattle.aql_names.specs.Index.{last_of, count_below}
use Rattle.aql_names.specs.Named.{last_named}
use Rattle.aql_names.proofs.Positions.{last-before, ascending}
use Rattle.aql_names.proofs.names.Names.latest_before.Goals as goal

pub number_below-requires : goal.number_below-requires
number_below-requires c = record {
  ascending = subst (λ l. IsPartitionedBy (λ p. nat_lt p c.args.n) l) (sym (c.positions_of-positions.ensures ∙ c.self.invariant.positions c.args.name.now)) (ascending c.args.n 0 c.args.name.now _);
}

pub returns : goal.returns
returns c =
    c.last.ensures
    ∙ ap (λ k. last_of (take k c.positions_of-positions.result.now)) c.number_below.ensures
    ∙ ap (λ (l : List ℕ). last_of (take (count_below c.args.n l) l)) (c.positions_of-positions.ensures ∙ c.self.invariant.positions c.args.name.now)
    ∙ last-before c.args.n c.args.name.now _
    ∙ ap (λ l. last_named c.args.name.now (take c.args.n l)) c.self.view_is
