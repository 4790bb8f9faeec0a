use Rattle.std.proofs.Common.{length, [], ◌∷◌, map, ap, ◌∙◌, arith}
use Rattle.std.specs.Prelude.{decimal}
use Rattle.std.proofs.lemmas.List.{length-map}
use Rattle.aql_print.specs.Laws.Prefix.{prefix_before, prefix_text, both_whole, number_at}
use Rattle.aql_print.proofs.value.put_dims.Goals as goal

pub returns-in_err-put_before-clause-prefix : goal.returns-in_err-put_before-clause-prefix
returns-in_err-put_before-clause-prefix c =
    let p = c.deref-d-items.ensures.value ∙ c.dims.view_is in
    prefix_before (44 ∷ []) (map decimal c.args.dims.now) c.loop-i.i _ _ _ _ [] _ c.loop-i.invariant
    (omega (arith, length-map c.args.dims.now decimal, ap length p, c.loop-i-test.true)) (number_at _ _ c.loop-i.i 0 p) c.put_before.ensures.prefix

pub returns-in_err-put_number-clause-prefix : goal.returns-in_err-put_number-clause-prefix
returns-in_err-put_number-clause-prefix c =
    let p = c.deref-d-items.ensures.value ∙ c.dims.view_is in
    prefix_text (44 ∷ []) (map decimal c.args.dims.now) c.loop-i.i _ _ _ _ _ _ c.loop-i.invariant
    (omega (arith, length-map c.args.dims.now decimal, ap length p, c.loop-i-test.true)) (number_at _ _ c.loop-i.i 0 p) c.in_ok-put_before.ensures.ok c.put_number.ensures.prefix

pub loop-i-preserved : goal.loop-i-preserved
loop-i-preserved c =
    let p = c.deref-d-items.ensures.value ∙ c.dims.view_is in
    both_whole (44 ∷ []) (map decimal c.args.dims.now) c.loop-i.i _ _ _ _ _ _ c.loop-i.invariant
    (omega (arith, length-map c.args.dims.now decimal, ap length p, c.loop-i-test.true)) (number_at _ _ c.loop-i.i 0 p) c.in_ok-put_before.ensures.ok c.in_ok-put_number.ensures.ok
