use Rattle.std.proofs.Common.{◌≡◌, ◌*◌, ◌<◌, get_or, arith, ap, sym, ◌∙◌}
use Rattle.std.specs.Prelude.{slice_index}
use Rattle.std.proofs.lemmas.List.{take_all}
use Rattle.nrca_array.specs.Packing.{spell_numbers}
use Rattle.nrca_array.specs.Runs.{run}
use Rattle.nrca_array.specs.Laws.Runs.{length-run}
use Rattle.nrca_array.proofs.RunsWritten.{byte_number, run_get, bits_more, all_bits}
use Rattle.nrca_array.proofs.Writing.{written_one_more}
use Rattle.nrca_array.proofs.put_runs.write_bytes.Goals as goal

pub loop-k-preserved : goal.loop-k-preserved
loop-k-preserved c =
    let k = c.loop-k.k in
    let ns = run 1 c.args.step c.args.count c.args.bytes.now in
    let len = c.loop-k.auto.buffer in
    let many = length-run 1 c.args.step c.args.count c.args.bytes.now in
    let is : get_or c.args.bytes.now (k * c.args.step) 0 ≡ slice_index ns k =
    byte_number (k * c.args.step) c.args.bytes.now ∙ sym (run_get 1 c.args.step c.args.count c.args.bytes.now k c.loop-k-test.true) in
    let small : slice_index ns k < 256 = omega (arith, is, c.type_inv.bytes (k * c.args.step)) in
    record {
      bytes = rw is (written_one_more ns c.loop-k.buffer k (omega arith) (omega arith) small c.loop-k.invariant.bytes);
      bits = bits_more ns k _ _ (omega arith) is c.loop-k.invariant.bits;
    }

pub returns-clause-bytes : goal.returns-clause-bytes
returns-clause-bytes c =
    let ns = run 1 c.args.step c.args.count c.args.bytes.now in
    let len = c.loop-k.auto.buffer in
    let many = length-run 1 c.args.step c.args.count c.args.bytes.now in
    sym (take_all c.loop-k.k c.loop-k.buffer (omega arith)) ∙ c.loop-k.invariant.bytes ∙ ap (spell_numbers 1) (take_all c.loop-k.k ns (omega arith))

pub returns-clause-bits : goal.returns-clause-bits
returns-clause-bits c = all_bits (run 1 c.args.step c.args.count c.args.bytes.now) c.loop-k.k _ _ (omega (arith, length-run 1 c.args.step c.args.count c.args.bytes.now)) c.from.ensures c.loop-k.invariant.bits
