use Rattle.std.proofs.Common.{◌≡◌, ◌*◌, ◌+◌, ◌-◌, length, take, drop, arith}
use borrow.Rule.Slice.PartMut.{post_of}
use Rattle.nrca_array.proofs.Writing.{written_more, written_all}
use Rattle.nrca_array.proofs.bytes.write_in_eight.Goals as goal

pub loop-i-preserved : goal.loop-i-preserved
loop-i-preserved c =
    let i = c.loop-i.i in
    let buffer = c.loop-i.buffer in
    let e : 8 * (i + 1) ≡ 8 * i + 8 = omega arith in
    let len = c.loop-i.auto.buffer in
    rw (e, c.write_u64.ensures)
    (written_more 8 c.args.xs.now buffer (drop 8 (take (length buffer - 8 * i) (drop (8 * i) buffer))) (post_of (8 * i) (length buffer - 8 * i) buffer) i (omega arith) (omega arith) c.loop-i.invariant)

pub returns : goal.returns
returns c =
    let len = c.loop-i.auto.buffer in
    written_all 8 c.args.xs.now c.loop-i.buffer c.loop-i.i (omega arith) (omega arith) c.loop-i.invariant
