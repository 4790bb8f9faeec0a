use Rattle.std.proofs.Common.{◌+◌, Some, sym, ap, ◌∙◌, arith}
use Rattle.nrca_loops.proofs.Merged.{takes_less, takes_equal, takes_greater, left_there, right_there, right_both}
use Rattle.nrca_loops.proofs.walk.step.Goals as goal

pub overflow_add-result : goal.overflow_add-result
overflow_add-result c =
    omega (arith, left_there c.args.left.now c.args.right.now c.args.i c.args.j (c.args.i + 1) c.args.j (takes_less c.args.left.now c.args.right.now c.args.i c.args.j c.count-lefts.ensures.ascending c.count-rights.ensures.ascending (ap Some (sym c.in-Some-Less.field-0-is) ∙ c.in-Some-Less.ensures)), c.count-lefts.ensures.count)

pub overflow_add-result-in-Some-Equal : goal.overflow_add-result-in-Some-Equal
overflow_add-result-in-Some-Equal c =
    omega (arith, left_there c.args.left.now c.args.right.now c.args.i c.args.j (c.args.i + 1) (c.args.j + 1) (takes_equal c.args.left.now c.args.right.now c.args.i c.args.j c.count-lefts.ensures.ascending c.count-rights.ensures.ascending (ap Some (sym c.in-Some-Equal.field-0-is) ∙ c.in-Some-Equal.ensures)), c.count-lefts.ensures.count)

pub overflow_add-result-in-Some-Equal-2 : goal.overflow_add-result-in-Some-Equal-2
overflow_add-result-in-Some-Equal-2 c = omega (arith, right_both c.args.left.now c.args.right.now c.args.i c.args.j (ap Some (sym c.in-Some-Equal.field-0-is) ∙ c.in-Some-Equal.ensures), c.count-rights.ensures.count)

pub overflow_add-result-in-Some-Greater : goal.overflow_add-result-in-Some-Greater
overflow_add-result-in-Some-Greater c =
    omega (arith, right_there c.args.left.now c.args.right.now c.args.i c.args.j c.args.i (c.args.j + 1) (takes_greater c.args.left.now c.args.right.now c.args.i c.args.j c.count-lefts.ensures.ascending c.count-rights.ensures.ascending (ap Some (sym c.in-Some-Greater.field-0-is) ∙ c.in-Some-Greater.ensures)), c.count-rights.ensures.count)
