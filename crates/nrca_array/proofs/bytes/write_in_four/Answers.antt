use Rattle.std.proofs.Common.{◌≡◌, ◌*◌, ◌+◌, ◌-◌, length, take, drop, arith}
use borrow.Rule.Slice.PartMut.{post_of}
use Rattle.nrca_array.proofs.Writing.{written_more, written_all}
use Rattle.nrca_array.proofs.bytes.write_in_four.Goals as goal

pub loop-i-preserved : goal.loop-i-preserved
loop-i-preserved c =
    let i = c.loop-i.i in
    let buffer = c.loop-i.buffer in
    let e : 4 * (i + 1) ≡ 4 * i + 4 = omega arith in
    let len = c.loop-i.auto.buffer in
    rw (e, c.write_u32.ensures)
    (written_more 4 c.args.xs.now buffer (drop 4 (take (length buffer - 4 * i) (drop (4 * i) buffer))) (post_of (4 * i) (length buffer - 4 * i) buffer) i (omega arith) (omega arith) c.loop-i.invariant)

pub returns : goal.returns
returns c =
    let len = c.loop-i.auto.buffer in
    written_all 4 c.args.xs.now c.loop-i.buffer c.loop-i.i (omega arith) (omega arith) c.loop-i.invariant
