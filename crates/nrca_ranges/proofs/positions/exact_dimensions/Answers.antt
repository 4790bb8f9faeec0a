use Rattle.std.proofs.Common.{◌++◌, ◌∷◌, [], map, take, get_or, sym, ap, ◌∙◌, arith}
use Rattle.std.proofs.lemmas.List.{take_more, map_push}
use Rattle.nrca_ranges.specs.Exact.{only}
use Rattle.nrca_ranges.proofs.positions.exact_dimensions.Goals as goal

pub loop-d-preserved : goal.loop-d-preserved
loop-d-preserved c =
    let ds = c.deref-d-items.result.now in
    let n = c.loop-d.d-index in
    let d = get_or ds n 0 in
    c.in_ok-push.ensures.items
    ∙ ap (λ l. l ++ only d ∷ []) c.loop-d.invariant
    ∙ sym (ap (map only) (take_more ds n 0 (omega arith)) ∙ map_push only (take n ds) d)
