use Rattle.std.proofs.Common.{ap, sym, ◌∙◌, arith}
use Rattle.nrca_array.proofs.Places.{place_within, cell_inside, cell_outside}
use Rattle.std.specs.Prelude.{slice_get}
use Rattle.nrca_numbers.proofs.naturals.grid_offset.Goals as goal

pub overflow_cast-result : goal.overflow_cast-result
overflow_cast-result c =
    let d = c.as_slice-dims.ensures.value ∙ c.behind-cells.view_is ∙ c.dims.ensures in
    omega (arith, place_within c.args.cells.now _ c.args.at.now d c.cell_count-count.ensures.table (sym c.if-is_below.ensures), c.offset_at-place.ensures, c.cell_count-count.ensures.count, c.cell_count-count.type_inv)

pub returns-then-is_below : goal.returns-then-is_below
returns-then-is_below c =
    let d = c.as_slice-dims.ensures.value ∙ c.behind-cells.view_is ∙ c.dims.ensures in
    let below = sym c.if-is_below.ensures in (
      omega (arith, place_within c.args.cells.now _ c.args.at.now d c.cell_count-count.ensures.table below, c.offset_at-place.ensures),
      cell_inside c.args.cells.now _ c.args.at.now d below ∙ ap (slice_get c.args.cells.now.cells) (sym c.offset_at-place.ensures),
    )

pub returns-else-is_below : goal.returns-else-is_below
returns-else-is_below c =
    let d = c.as_slice-dims.ensures.value ∙ c.behind-cells.view_is ∙ c.dims.ensures in
    cell_outside c.args.cells.now _ c.args.at.now d (sym c.if-is_below.ensures)
