use Rattle.std.proofs.Common.{◌≡◌, ◌+◌, ◌-◌, ◌≤◌, length, take, get_or, ap, ◌∙◌, refl, arith}
use Rattle.std.specs.List.{slice_range, range_with_len}
use Rattle.nrca_numbers.proofs.Arms.{found_as}
use Rattle.nrca_numbers.proofs.Over.{row_at}
use Rattle.nrca_numbers.proofs.runs.row_run.Goals as goal

pub returns : goal.returns
returns c =
    let at = c.args.at.now in
    let ds = c.args.dims.now in
    let n = length ds - 1 in
    let first = get_or at n 0 in
    let count = c.args.count in
    let z : n - 0 ≡ n = omega arith in
    found_as c.row_over-found.result _ _ c.row_over-found.ensures
    (λ xs k p there. row_at c.args.globals.now c.args.env.now c.args.body.now ds at _ c.as_slice.result.now c.in_ok-column.column.items xs.items n first count p
    (omega arith) refl refl (omega (arith, c.from.ensures)) (c.in_ok-column.ensures ∙ ap (range_with_len first) (omega arith)) c.as_slice.ensures.value k there)
