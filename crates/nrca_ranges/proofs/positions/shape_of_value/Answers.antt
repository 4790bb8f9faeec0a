use Rattle.std.proofs.Common.{◌≡◌, length, map, ap, sym, subst, ◌∙◌, arith}
use Rattle.std.proofs.lemmas.List.{length-map}
use Rattle.aql_value.specs.Datum.{data_of, list_of, array}
use Rattle.aql_value.specs.Laws.Datum.{list_of-data_of}
use Rattle.aql_value.specs.Meaning.{datum}
use Rattle.nrca_ranges.specs.declared.interval.Interval.{Interval}
use Rattle.nrca_ranges.specs.Bounds.{HasShape, IsCount, unknown, members, grid}
use Rattle.nrca_ranges.specs.Exact.{only, exact_bounds}
use Rattle.nrca_ranges.specs.Shapes.{bounds_of}
use Rattle.nrca_ranges.specs.Laws.Bounds.{count-is, nothing-known}
use Rattle.nrca_ranges.specs.Laws.Views.{bounds_of-Unknown, bounds_of-Members}
use Rattle.nrca_ranges.proofs.positions.shape_of_value.Goals as goal

pub returns-in_ok-member-in-Members-clause-holds : goal.returns-in_ok-member-in-Members-clause-holds
returns-in_ok-member-in-Members-clause-holds c =
    let n = c.len-count.result in
    let i : Interval = record { low = n; high = n } in
    let e : n ≡ length c.in-Members.m = omega (arith, c.len-count.ensures, length-map c.members.inside.items.items datum, ap length (c.members.view_is ∙ c.items-members.ensures.items)) in
    let z = bounds_of-Members i c.in_ok-member-in-Members.member ∙ ap (λ s. members i (bounds_of s)) c.in_ok-member-in-Members.ensures.ok ∙ ap (members i) bounds_of-Unknown in
    subst (λ b. HasShape b (datum c.args.v.now)) (sym z) (
      data_of c.in-Members.m,
      ap datum c.in-Members.is,
      subst (IsCount i) (sym (list_of-data_of c.in-Members.m)) (count-is i c.in-Members.m n c.items-members.ensures.ascending (sym e) (omega arith, λ l. omega arith)),
      nothing-known (list_of (data_of c.in-Members.m)),
    )

pub returns-in_ok-member-in-Members-clause-exact : goal.returns-in_ok-member-in-Members-clause-exact
returns-in_ok-member-in-Members-clause-exact c =
    let n = c.len-count.result in
    let e : n ≡ length c.in-Members.m = omega (arith, c.len-count.ensures, length-map c.members.inside.items.items datum, ap length (c.members.view_is ∙ c.items-members.ensures.items)) in
    bounds_of-Members (only n) c.in_ok-member-in-Members.member
    ∙ ap (λ s. members (only n) (bounds_of s)) c.in_ok-member-in-Members.ensures.ok
    ∙ ap (members (only n)) bounds_of-Unknown
    ∙ ap (λ k. members (only k) unknown) (e ∙ ap length (sym (list_of-data_of c.in-Members.m)))
    ∙ ap exact_bounds (sym (ap datum c.in-Members.is))

pub returns-in_ok-shape-in-Grid-clause-holds : goal.returns-in_ok-shape-in-Grid-clause-holds
returns-in_ok-shape-in-Grid-clause-holds c =
    subst (HasShape (bounds_of c.in_ok-shape-in-Grid.shape)) (ap (λ ds. array ds (data_of c.in-Grid.c.cells)) c.dims.ensures ∙ sym (ap datum c.in-Grid.is))
    (c.in_ok-shape-in-Grid.ensures.holds (data_of c.in-Grid.c.cells))

pub returns-in_ok-shape-in-Grid-clause-exact : goal.returns-in_ok-shape-in-Grid-clause-exact
returns-in_ok-shape-in-Grid-clause-exact c =
    c.in_ok-shape-in-Grid.ensures.exact ∙ ap (λ l. grid (map only l) unknown) c.dims.ensures ∙ ap exact_bounds (sym (ap datum c.in-Grid.is))
