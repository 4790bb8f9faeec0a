use Rattle.std.proofs.Common.{length}
use Rattle.cdf_slab.specs.Walk.{step_of, steps_of, walk, first_past, saturate_all}
use Rattle.cdf_slab.proofs.Cuts.{CutSoFar}
use Rattle.cdf_slab.proofs.faults.+cut_in_order.Given as goal

abbrev pub decreases-cut_in_order : goal.decreases-cut_in_order
decreases-cut_in_order l = length l.axes.now

abbrev pub invariant-cells : goal.invariant-cells
invariant-cells l = CutSoFar (steps_of l.rest) (step_of l.a) l.base l.i l.size l.end (first_past l.size l.end (saturate_all (walk (steps_of l.axes) l.base)))
