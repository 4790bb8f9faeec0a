use Rattle.std.proofs.Common.{length, refl, ap, sym, subst, ◌∙◌, arith}
use Rattle.aql_value.specs.Datum.{data_of, list_of, set}
use Rattle.aql_value.specs.Laws.Datum.{list_of-data_of}
use Rattle.nrca_ranges.specs.declared.interval.Interval.{Interval}
use Rattle.nrca_ranges.specs.Bounds.{HasShape, IsCount, members, unknown}
use Rattle.nrca_ranges.specs.Exact.{only}
use Rattle.nrca_ranges.specs.Shapes.{bounds_of}
use Rattle.nrca_ranges.specs.Laws.Bounds.{count-is, nothing-known}
use Rattle.nrca_ranges.specs.Laws.Views.{bounds_of-Unknown, bounds_of-Members}
use Rattle.aql_session.proofs.shapes.shape_of_set.Goals as goal

pub returns-clause-holds : goal.returns-clause-holds
returns-clause-holds c =
    let ms = c.args.members.now in
    let n = c.count-count.result in
    let i : Interval = record { low = n; high = n } in
    let z = bounds_of-Members i c.in_ok-member.member ∙ ap (λ s. members i (bounds_of s)) c.in_ok-member.ensures.ok ∙ ap (members i) bounds_of-Unknown in
    subst (λ b. HasShape b (set (data_of ms))) (sym z) (
      data_of ms,
      refl,
      subst (IsCount i) (sym (list_of-data_of ms)) (count-is i ms n c.count-count.ensures.ascending (sym c.count-count.ensures.count) (omega arith, λ l. omega arith)),
      nothing-known (list_of (data_of ms)),
    )

pub returns-clause-exact : goal.returns-clause-exact
returns-clause-exact c =
    let ms = c.args.members.now in
    let n = c.count-count.result in
    bounds_of-Members (only n) c.in_ok-member.member
    ∙ ap (λ s. members (only n) (bounds_of s)) c.in_ok-member.ensures.ok
    ∙ ap (members (only n)) bounds_of-Unknown
    ∙ ap (λ k. members (only k) unknown) (c.count-count.ensures.count ∙ ap length (sym (list_of-data_of ms)))
