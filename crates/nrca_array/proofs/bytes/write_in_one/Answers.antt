use Rattle.std.proofs.Common.{◌∙◌, sym, ap, arith}
use Rattle.std.proofs.lemmas.List.{take_all}
use Rattle.nrca_array.specs.Packing.{spell_numbers}
use Rattle.nrca_array.proofs.Spelling.{get_greatest}
use Rattle.nrca_array.proofs.Writing.{written_one_more}
use Rattle.nrca_array.proofs.bytes.write_in_one.Goals as goal

pub loop-i-preserved : goal.loop-i-preserved
loop-i-preserved c =
    let len = c.loop-i.auto.buffer in
    written_one_more c.args.xs.now c.loop-i.buffer c.loop-i.i (omega arith) (omega arith) (omega (arith, c.requires.fits, get_greatest c.args.xs.now c.loop-i.i)) c.loop-i.invariant

pub returns : goal.returns
returns c =
    let len = c.loop-i.auto.buffer in
    sym (take_all c.loop-i.i c.loop-i.buffer (omega arith)) ∙ c.loop-i.invariant ∙ ap (spell_numbers 1) (take_all c.loop-i.i c.args.xs.now (omega arith))
