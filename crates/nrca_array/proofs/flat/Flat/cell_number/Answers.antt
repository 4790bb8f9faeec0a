use Rattle.std.proofs.Common.{length, ap, sym, ◌∙◌, arith}
use Rattle.std.specs.Prelude.{slice_get}
use Rattle.aql_value.specs.Datum.{Table}
use Rattle.aql_value.specs.Indices.{cell}
use Rattle.nrca_array.specs.Stored.{kept_cells}
use Rattle.nrca_array.proofs.Places.{place_within, cell_inside, cell_outside}
use Rattle.nrca_array.proofs.flat.Flat.cell_number.Goals as goal

pub overflow_cast-result : goal.overflow_cast-result
overflow_cast-result c =
    let t : Table = record { dims = c.self.inside.dims; cells = kept_cells c.self.inside.cells } in
    let d = c.as_slice-dims.ensures.value ∙ c.kept.view_is in
    omega (arith, place_within t _ c.args.at.now d c.self.invariant.0 (sym c.if-is_below.ensures), c.offset_at-place.ensures, c.len-count.ensures, c.len-count.type_inv)

pub returns-then-is_below : goal.returns-then-is_below
returns-then-is_below c =
    let t : Table = record { dims = c.self.inside.dims; cells = kept_cells c.self.inside.cells } in
    let d = c.as_slice-dims.ensures.value ∙ c.kept.view_is in
    let below = sym c.if-is_below.ensures in
    let same = c.self.view_is in (
      omega (arith, place_within t _ c.args.at.now d c.self.invariant.0 below, c.offset_at-place.ensures, ap (λ s. length s.cells) same),
      sym (ap (λ s. cell s c.args.at.now) same) ∙ cell_inside t _ c.args.at.now d below
          ∙ ap (slice_get (kept_cells c.self.inside.cells)) (sym c.offset_at-place.ensures) ∙ ap (λ s. slice_get s.cells c.offset_at-place.result) same,
    )

pub returns-else-is_below : goal.returns-else-is_below
returns-else-is_below c =
    let t : Table = record { dims = c.self.inside.dims; cells = kept_cells c.self.inside.cells } in
    let d = c.as_slice-dims.ensures.value ∙ c.kept.view_is in
    sym (ap (λ s. cell s c.args.at.now) c.self.view_is) ∙ cell_outside t _ c.args.at.now d (sym c.if-is_below.ensures)
