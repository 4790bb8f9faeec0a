-- The cell at an index, by its place in row-major order.
use Rattle.std.proofs.Common.{◌≡◌, ℕ, ◌<◌, true, false, cond, List, length, None, sym, ◌∙◌, ap, arith}
use Rattle.std.specs.Prelude.{slice_get, nat_lt}
use Rattle.std.specs.Cmp.Lexicographic.{pointwise}
use Rattle.aql_value.specs.Datum.{Table}
use Rattle.aql_value.specs.Indices.{product, cell, IsTable, offset}
use Rattle.aql_value.specs.Laws.Indices.{paired_is}
use Rattle.aql_value.specs.Laws.RowMajor.{offset_of_below, offset_of_within}

pub place_within : (t : Table) (dims at : List ℕ) → dims ≡ t.dims → IsTable t → pointwise nat_lt at dims ≡ true → offset dims at < length t.cells
place_within t dims at d i e = omega (arith, offset_of_within dims at (offset dims at) (offset_of_below dims at e), i.full, ap product d)

pub cell_inside : (t : Table) (dims at : List ℕ) → dims ≡ t.dims → pointwise nat_lt at dims ≡ true → cell t at ≡ slice_get t.cells (offset dims at)
cell_inside t dims at d e =
    paired_is t.dims at t.cells
    ∙ ap (λ ds. cond (pointwise nat_lt at ds) (slice_get t.cells (offset ds at)) None) (sym d)
    ∙ ap (λ b. cond b (slice_get t.cells (offset dims at)) None) e

pub cell_outside : (t : Table) (dims at : List ℕ) → dims ≡ t.dims → pointwise nat_lt at dims ≡ false → cell t at ≡ None
cell_outside t dims at d e =
    paired_is t.dims at t.cells
    ∙ ap (λ ds. cond (pointwise nat_lt at ds) (slice_get t.cells (offset ds at)) None) (sym d)
    ∙ ap (λ b. cond b (slice_get t.cells (offset dims at)) None) e
