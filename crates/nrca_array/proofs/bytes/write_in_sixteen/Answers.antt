use Rattle.std.proofs.Common.{◌≡◌, ◌*◌, ◌+◌, ◌-◌, length, take, drop, arith}
use borrow.Rule.Slice.PartMut.{post_of}
use Rattle.nrca_array.proofs.Writing.{written_more, written_all}
use Rattle.nrca_array.proofs.bytes.write_in_sixteen.Goals as goal

pub loop-i-preserved : goal.loop-i-preserved
loop-i-preserved c =
    let i = c.loop-i.i in
    let buffer = c.loop-i.buffer in
    let e : 16 * (i + 1) ≡ 16 * i + 16 = omega arith in
    let len = c.loop-i.auto.buffer in
    rw (e, c.write_u128.ensures, c.from.ensures)
    (written_more 16 c.args.xs.now buffer (drop 16 (take (length buffer - 16 * i) (drop (16 * i) buffer))) (post_of (16 * i) (length buffer - 16 * i) buffer) i (omega arith) (omega arith) c.loop-i.invariant)

pub returns : goal.returns
returns c =
    let len = c.loop-i.auto.buffer in
    written_all 16 c.args.xs.now c.loop-i.buffer c.loop-i.i (omega arith) (omega arith) c.loop-i.invariant
