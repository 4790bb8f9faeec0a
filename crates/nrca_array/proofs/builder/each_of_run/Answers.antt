use Rattle.std.proofs.Common.{◌≡◌, ◌<◌, [], ◌∷◌, ◌++◌, length, map, take, append_assoc, sym, ap, ◌∙◌, arith}
use Rattle.std.specs.Prelude.{slice_index}
use Rattle.std.proofs.lemmas.List.{take_all}
use Rattle.aql_value.specs.Datum.{natural}
use Rattle.nrca_array.specs.Runs.{run_numbers}
use Rattle.nrca_array.specs.Stored.{store_cells}
use Rattle.nrca_array.specs.Laws.Runs.{length-run}
use Rattle.nrca_array.proofs.Steps.{map_take_more, number_got}
use Rattle.nrca_array.proofs.builder.each_of_run.Goals as goal

pub loop-k-preserved : goal.loop-k-preserved
loop-k-preserved c =
    let ns = run_numbers c.args.run in
    let k = c.loop-k.k in
    let x = c.from.result in
    let is : x ≡ slice_index ns k = c.from.ensures ∙ c.get.ensures in
    let within : k < length ns = omega (arith, c.loop-k-test.true, length-run c.args.run.size c.args.run.step c.args.run.count c.args.run.bytes.now) in
    c.in_ok-all.ensures
    ∙ ap (λ l. l ++ natural x ∷ []) c.loop-k.invariant
    ∙ append_assoc (store_cells c.args.cells) (map natural (take k ns)) (natural x ∷ [])
    ∙ ap (λ l. store_cells c.args.cells ++ l) (sym (map_take_more natural ns k x (number_got ns k x within is)))

pub returns : goal.returns
returns c =
    let ns = run_numbers c.args.run in
    c.loop-k.invariant
    ∙ ap (λ l. store_cells c.args.cells ++ map natural l)
    (take_all c.loop-k.k ns (omega (arith, c.loop-k-test.false, length-run c.args.run.size c.args.run.step c.args.run.count c.args.run.bytes.now)))
