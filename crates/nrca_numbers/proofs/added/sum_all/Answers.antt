use Rattle.std.proofs.Common.{◌≡◌, map, take, get_or, Some, ◌∙◌, ap, sym, arith}
use Rattle.aql_value.specs.Datum.{natural}
use Rattle.nrca_loops.specs.Laws.Run.{sum_value-with}
use Rattle.nrca_loops.specs.Runs.{sum_value, sum_with}
use Rattle.nrca_numbers.proofs.Places.{mapped_more}
use Rattle.nrca_numbers.proofs.added.sum_all.Goals as goal

pub loop-number-preserved : goal.loop-number-preserved
loop-number-preserved c =
    let i = c.loop-number.number-index in
    let ns = c.args.numbers.now in
    c.number_added-sum.ensures
    ∙ ap (λ s. sum_with s (Some (natural (get_or ns i 0)))) c.loop-number.invariant
    ∙ sym (sum_value-with (Some (map natural (take i ns))) (Some (natural (get_or ns i 0))))
    ∙ ap (λ l. sum_value (Some l)) (sym (mapped_more natural ns i 0 (omega arith)))
