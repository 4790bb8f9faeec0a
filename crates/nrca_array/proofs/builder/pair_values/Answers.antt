use Rattle.std.proofs.Common.{map, sym, ap, ◌∙◌, arith}
use Rattle.std.proofs.lemmas.List.{take_all}
use Rattle.aql_value.specs.Meaning.{datum}
use Rattle.nrca_array.specs.Packing.{pair_datum}
use Rattle.nrca_array.specs.Kept.{paired_up}
use Rattle.nrca_array.proofs.PairsKept.{paired_up-get, length-paired_up}
use Rattle.nrca_array.proofs.Steps.{map_take_more, number_got}
use Rattle.aql_value.specs.Laws.Lists.{map_pushed}
use Rattle.nrca_array.proofs.builder.pair_values.Goals as goal

pub loop-i-preserved : goal.loop-i-preserved
loop-i-preserved c =
    let bs = c.args.truths.now in
    let ns = c.args.numbers.now in
    let b = c.get.result in
    let n = c.get-in-loop-i.result in
    let i = c.loop-i.i in
    let got = number_got ns i n (omega arith) c.get-in-loop-i.ensures in
    map_pushed datum _ _ _ (pair_datum (b, n)) _ c.in_ok-push.ensures.items c.loop-i.invariant c.in_ok-pair_value.ensures
    ∙ sym (map_take_more pair_datum (paired_up bs ns) i (b, n) (paired_up-get bs ns i b n c.get.ensures got))

pub returns : goal.returns
returns c =
    let ps = paired_up c.args.truths.now c.args.numbers.now in
    let many = length-paired_up c.args.truths.now c.args.numbers.now c.requires in
    c.loop-i.invariant ∙ ap (map pair_datum) (take_all c.loop-i.i ps (omega (arith, many)))
