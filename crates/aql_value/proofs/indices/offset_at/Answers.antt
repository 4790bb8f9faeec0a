use Rattle.std.proofs.Common.{◌<◌, ◌^◌, nat_lt, length, arith}
use Rattle.std.specs.Cmp.Lexicographic.{as_long}
use Rattle.aql_value.specs.Indices.{offset}
use Rattle.aql_value.proofs.RowMajor.{horner_fits, offset_below}
use Rattle.aql_value.proofs.indices.offset_at.Goals as goal

pub overflow_mul-place : goal.overflow_mul-place
overflow_mul-place c =
    let e = as_long nat_lt c.args.at.now c.args.dims.now c.requires.below in
    let below : offset c.args.dims.now c.args.at.now < 2 ^ 128 = omega (arith, offset_below c.args.dims.now c.args.at.now c.requires.below, c.requires.fits) in
    let in' : c.loop-j.j < length c.args.dims.now = omega (arith, e, c.loop-j-test.true) in
    omega (arith, horner_fits c.args.dims.now c.args.at.now c.loop-j.j c.loop-j.place _ (2 ^ 128) in' c.loop-j-test.true c.loop-j.invariant.0 c.loop-j.invariant.1 below)

pub overflow_add-place : goal.overflow_add-place
overflow_add-place c =
    let e = as_long nat_lt c.args.at.now c.args.dims.now c.requires.below in
    let below : offset c.args.dims.now c.args.at.now < 2 ^ 128 = omega (arith, offset_below c.args.dims.now c.args.at.now c.requires.below, c.requires.fits) in
    let in' : c.loop-j.j < length c.args.dims.now = omega (arith, e, c.loop-j-test.true) in
    omega (arith, horner_fits c.args.dims.now c.args.at.now c.loop-j.j c.loop-j.place _ (2 ^ 128) in' c.loop-j-test.true c.loop-j.invariant.0 c.loop-j.invariant.1 below)
