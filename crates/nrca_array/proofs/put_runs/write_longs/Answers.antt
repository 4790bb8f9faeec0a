use Rattle.std.proofs.Common.{◌≡◌, ◌*◌, ◌+◌, ◌-◌, length, take, drop, refl, arith}
use Rattle.std.specs.Prelude.{slice_index}
use borrow.Rule.Slice.PartMut.{post_of}
use Rattle.nrca_array.specs.Runs.{run}
use Rattle.nrca_array.specs.Laws.Runs.{length-run}
use Rattle.nrca_array.proofs.RunsWritten.{run_read, bits_more, all_bits}
use Rattle.nrca_array.proofs.Writing.{written_more, written_all}
use Rattle.nrca_array.proofs.put_runs.write_longs.Goals as goal

pub loop-k-preserved : goal.loop-k-preserved
loop-k-preserved c =
    let k = c.loop-k.k in
    let buffer = c.loop-k.buffer in
    let ns = run 8 c.args.step c.args.count c.args.bytes.now in
    let len = c.loop-k.auto.buffer in
    let many = length-run 8 c.args.step c.args.count c.args.bytes.now in
    let is : c.read_u64-n.result ≡ slice_index ns k = run_read 8 c.args.step c.args.count c.args.bytes.now k _ c.loop-k-test.true c.read_u64-n.ensures in
    let e : 8 * (k + 1) ≡ 8 * k + 8 = omega arith in
    record {
      bytes =
          rw (e, c.write_u64.ensures, is)
          (written_more 8 ns buffer (drop 8 (take (length buffer - 8 * k) (drop (8 * k) buffer))) (post_of (8 * k) (length buffer - 8 * k) buffer) k (omega arith) (omega arith) c.loop-k.invariant.bytes);
      bits = bits_more ns k _ _ (omega arith) is c.loop-k.invariant.bits;
    }

pub returns-clause-bytes : goal.returns-clause-bytes
returns-clause-bytes c =
    let len = c.loop-k.auto.buffer in
    let many = length-run 8 c.args.step c.args.count c.args.bytes.now in
    written_all 8 (run 8 c.args.step c.args.count c.args.bytes.now) c.loop-k.buffer c.loop-k.k (omega arith) (omega arith) c.loop-k.invariant.bytes

pub returns-clause-bits : goal.returns-clause-bits
returns-clause-bits c = all_bits (run 8 c.args.step c.args.count c.args.bytes.now) c.loop-k.k _ _ (omega (arith, length-run 8 c.args.step c.args.count c.args.bytes.now)) refl c.loop-k.invariant.bits
