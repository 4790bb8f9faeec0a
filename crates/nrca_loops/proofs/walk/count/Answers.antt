use Rattle.std.proofs.Common.{◌++◌, ap, length, arith}
use Rattle.std.proofs.lemmas.List.{length-append}
use Rattle.aql_value.specs.Laws.Set.{length_canon}
use Rattle.nrca_loops.proofs.walk.count.Goals as goal

pub overflow_add-count : goal.overflow_add-count
overflow_add-count c =
    omega (
      arith,
      c.loop-taken.invariant,
      ap length c.in-Some.ensures.rest,
      length_canon (c.args.left.now ++ c.args.right.now),
      length-append c.args.left.now c.args.right.now,
      c.count-lefts.ensures.count,
      c.count-rights.ensures.count,
    )
