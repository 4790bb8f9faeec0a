use Rattle.std.proofs.Common.{ap, sym, subst, refl, ◌∙◌}
use Rattle.aql_value.specs.Datum.{list_of, array}
use Rattle.nrca_ranges.specs.Bounds.{HasShape, AreIn, unknown, grid}
use Rattle.nrca_ranges.specs.Shapes.{bounds_of}
use Rattle.nrca_ranges.specs.Laws.Bounds.{nothing-known}
use Rattle.nrca_ranges.specs.Laws.Views.{bounds_of-Unknown, bounds_of-Grid}
use Rattle.nrca_ranges.proofs.Lists.{are-only}
use Rattle.nrca_ranges.proofs.positions.shape_of_dims.Goals as goal

pub returns-clause-holds : goal.returns-clause-holds
returns-clause-holds c = λ cells.
    let is = c.in_ok-exact.exact in
    let z = bounds_of-Grid is c.in_ok-cell.cell ∙ ap (λ s. grid is (bounds_of s)) c.in_ok-cell.ensures.ok ∙ ap (grid is) bounds_of-Unknown in
    subst (λ b. HasShape b (array c.args.dims.now cells)) (sym z) (
      c.args.dims.now,
      cells,
      refl,
      subst (λ l. AreIn l c.args.dims.now) (sym c.in_ok-exact.ensures) (are-only c.args.dims.now),
      nothing-known (list_of cells),
    )

pub returns-clause-exact : goal.returns-clause-exact
returns-clause-exact c =
    let is = c.in_ok-exact.exact in
    bounds_of-Grid is c.in_ok-cell.cell
    ∙ ap (λ s. grid is (bounds_of s)) c.in_ok-cell.ensures.ok
    ∙ ap (grid is) bounds_of-Unknown
    ∙ ap (λ l. grid l unknown) c.in_ok-exact.ensures
