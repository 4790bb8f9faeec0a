use Rattle.std.proofs.Common.{◌++◌, ap, sym, ◌∙◌}
use Rattle.nrca_array.specs.Packing.{spell_numbers}
use Rattle.nrca_array.specs.Kept.{width_bytes}
use Rattle.nrca_array.proofs.PairsKept.{pairs-are, pairs-read}
use Rattle.nrca_array.proofs.pairs.Pairs.new.Goals as goal

pub invariant_of-result : goal.invariant_of-result
invariant_of-result c =
    let p = c.into_parts-width.ensures in
    pairs-are (width_bytes c.into_parts-width.result.0) c.into_parts-width.result.1 c.extend_from_slice.new.self.items c.lend.result.now c.args.numbers c.args.truths p.width p.small (sym p.count) c.lend.ensures (c.requires ∙ sym p.count)
    (c.in_ok-extend_from_slice.ensures.items ∙ ap (λ l. l ++ c.lend.result.now) (p.bytes ∙ ap (λ w. spell_numbers w c.args.numbers) (sym p.width)))

pub returns : goal.returns
returns c =
    let p = c.into_parts-width.ensures in
    pairs-read (width_bytes c.into_parts-width.result.0) c.into_parts-width.result.1 c.extend_from_slice.new.self.items c.lend.result.now c.args.numbers c.args.truths p.width p.small (sym p.count) c.lend.ensures (c.requires ∙ sym p.count)
    (c.in_ok-extend_from_slice.ensures.items ∙ ap (λ l. l ++ c.lend.result.now) (p.bytes ∙ ap (λ w. spell_numbers w c.args.numbers) (sym p.width)))
