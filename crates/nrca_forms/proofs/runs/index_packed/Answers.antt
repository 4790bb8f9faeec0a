use Rattle.std.proofs.Common.{◌<◌, ◌^◌, ap, sym, ◌∙◌, arith, Some}
use Rattle.nrca_array.specs.Held.{table_datum}
use Rattle.nrca_forms.proofs.Packed.{packed_value, packed_turns}
use Rattle.nrca_forms.proofs.runs.index_packed.Goals as goal

pub returns-then-count-from : goal.returns-then-count-from
returns-then-count-from c =
    let n = c.dimension-count.result in
    let small : n < 2 ^ 128 = omega arith in
    let turns = packed_turns n c.args.pairs.now c.requires c.dimension-count.ensures small in
    λ s. omega (arith, turns, c.from.ensures, c.if-count-from.true)

pub returns : goal.returns
returns c =
    let n = c.dimension-count.result in
    let small : n < 2 ^ 128 = omega arith in
    let turns = packed_turns n c.args.pairs.now c.requires c.dimension-count.ensures small in (
      ap (λ t. Some (table_datum t)) c.in_ok-flat.ensures ∙ sym (packed_value n c.args.pairs.now c.requires c.dimension-count.ensures small),
      sym turns,
      omega (arith, turns, c.from.ensures, c.if-count-from.false),
    )
