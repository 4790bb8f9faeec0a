use Rattle.std.proofs.Common.{◌≡◌, ◌*◌, ◌+◌, ◌-◌, length, take, drop, arith}
use Rattle.std.specs.Prelude.{slice_index}
use borrow.Rule.Slice.PartMut.{post_of}
use Rattle.nrca_array.specs.Runs.{run}
use Rattle.nrca_array.specs.Laws.Runs.{length-run}
use Rattle.nrca_array.proofs.RunsWritten.{run_read, bits_more, all_bits}
use Rattle.nrca_array.proofs.Writing.{written_more, written_all}
use Rattle.nrca_array.proofs.put_runs.write_ints.Goals as goal

pub loop-k-preserved : goal.loop-k-preserved
loop-k-preserved c =
    let k = c.loop-k.k in
    let buffer = c.loop-k.buffer in
    let ns = run 4 c.args.step c.args.count c.args.bytes.now in
    let len = c.loop-k.auto.buffer in
    let many = length-run 4 c.args.step c.args.count c.args.bytes.now in
    let is : c.read_u32-n.result ≡ slice_index ns k = run_read 4 c.args.step c.args.count c.args.bytes.now k _ c.loop-k-test.true c.read_u32-n.ensures in
    let e : 4 * (k + 1) ≡ 4 * k + 4 = omega arith in
    record {
      bytes =
          rw (e, c.write_u32.ensures, is)
          (written_more 4 ns buffer (drop 4 (take (length buffer - 4 * k) (drop (4 * k) buffer))) (post_of (4 * k) (length buffer - 4 * k) buffer) k (omega arith) (omega arith) c.loop-k.invariant.bytes);
      bits = bits_more ns k _ _ (omega arith) is c.loop-k.invariant.bits;
    }

pub returns-clause-bytes : goal.returns-clause-bytes
returns-clause-bytes c =
    let len = c.loop-k.auto.buffer in
    let many = length-run 4 c.args.step c.args.count c.args.bytes.now in
    written_all 4 (run 4 c.args.step c.args.count c.args.bytes.now) c.loop-k.buffer c.loop-k.k (omega arith) (omega arith) c.loop-k.invariant.bytes

pub returns-clause-bits : goal.returns-clause-bits
returns-clause-bits c = all_bits (run 4 c.args.step c.args.count c.args.bytes.now) c.loop-k.k _ _ (omega (arith, length-run 4 c.args.step c.args.count c.args.bytes.now)) c.from.ensures c.loop-k.invariant.bits
