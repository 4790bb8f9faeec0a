use Rattle.std.proofs.Common.{◌≡◌, ◌*◌, ◌+◌, ◌-◌, ◌<◌, ◌≤◌, length, take, drop, refl, ap, ◌∙◌, arith}
use borrow.Rule.Slice.PartMut.{post_of}
use Rattle.nrca_array.specs.Kept.{width_bytes}
use Rattle.nrca_array.specs.Runs.{run_numbers}
use Rattle.nrca_array.specs.Laws.Runs.{length-run}
use Rattle.nrca_array.proofs.RunsWritten.{bits_more, all_bits}
use Rattle.nrca_array.proofs.Spelling.{room}
use Rattle.nrca_array.proofs.Writing.{written_more, written_all}
use Rattle.nrca_array.proofs.put_runs.write_others.Goals as goal

pub loop-k-preserved : goal.loop-k-preserved
loop-k-preserved c =
    let k = c.loop-k.k in
    let w = width_bytes c.args.width in
    let buffer = c.loop-k.buffer in
    let ns = run_numbers c.args.run in
    let len = c.loop-k.auto.buffer in
    let many = length-run c.args.run.size c.args.run.step c.args.run.count c.args.run.bytes.now in
    let within : k < length ns = omega (arith, many, c.loop-k-test.true) in
    let fill : k * w + w ≤ length buffer = room w c.args.run.count k (length buffer) c.loop-k-test.true (omega (arith, len, c.requires.enough)) in
    let e : w * (k + 1) ≡ w * k + w = omega arith in
    record {
      bytes =
          rw (e, c.write_low.ensures, c.bytes-w.ensures, c.get-n.ensures)
          (written_more w ns buffer (drop w (take (length buffer - w * k) (drop (w * k) buffer))) (post_of (w * k) (length buffer - w * k) buffer) k (omega (arith, fill)) within c.loop-k.invariant.bytes);
      bits = bits_more ns k _ _ within c.get-n.ensures c.loop-k.invariant.bits;
    }

pub returns-clause-bytes : goal.returns-clause-bytes
returns-clause-bytes c =
    let len = c.loop-k.auto.buffer in
    let many = length-run c.args.run.size c.args.run.step c.args.run.count c.args.run.bytes.now in
    written_all (width_bytes c.args.width) (run_numbers c.args.run) c.loop-k.buffer c.loop-k.k
    (len ∙ c.requires.enough ∙ (let e : c.args.run.count * width_bytes c.args.width ≡ width_bytes c.args.width * length (run_numbers c.args.run) = omega (arith, ap (λ n. width_bytes c.args.width * n) many) in e)) (omega (arith, many)) c.loop-k.invariant.bytes

pub returns-clause-bits : goal.returns-clause-bits
returns-clause-bits c = all_bits (run_numbers c.args.run) c.loop-k.k _ _ (omega (arith, length-run c.args.run.size c.args.run.step c.args.run.count c.args.run.bytes.now)) refl c.loop-k.invariant.bits
