use Rattle.std.proofs.Common.{◌+◌, ◌-◌, ◌*◌}
use Rattle.nrca_term.specs.View.{term_of}
use Rattle.nrca_ranges.specs.Context.{context_of}
use Rattle.nrca_ranges.specs.Shapes.{ranges_of}
use Rattle.nrca_normal.specs.Quiet.{QuietParts}
use Rattle.nrca_normal.specs.Descent.{HasRewritten, HasSettledParts, steps_left}
use Rattle.nrca_normal.proofs.descent.+settle.Given as goal

abbrev pub invariant-settle-loop-i : goal.invariant-settle-loop-i
invariant-settle-loop-i l = HasSettledParts l.fn.run (term_of l.fn.term) l.i l.run (term_of l.term) l.changed

abbrev pub decreases-settle-loop-i : goal.decreases-settle-loop-i
decreases-settle-loop-i l = steps_left (term_of l.term) * 1280002 + (1280001 - l.i)

abbrev pub invariant-settle_node-loop-firing : goal.invariant-settle_node-loop-firing
invariant-settle_node-loop-firing l = HasRewritten l.fn.run (term_of l.fn.term) l.run (term_of l.term) l.changed × QuietParts (ranges_of l.fn.run.ctx) (context_of l.fn.run.ctx) (term_of l.term) l.settled

abbrev pub decreases-settle_node-loop-firing : goal.decreases-settle_node-loop-firing
decreases-settle_node-loop-firing l = steps_left (term_of l.term)

abbrev pub decreases-settle : goal.decreases-settle
decreases-settle l = 5 * steps_left (term_of l.term.now) + 4

abbrev pub decreases-part_after : goal.decreases-part_after
decreases-part_after l = 5 * steps_left (term_of l.term.now) + 3

abbrev pub decreases-settle_node : goal.decreases-settle_node
decreases-settle_node l = 5 * steps_left (term_of l.term.now) + 2

abbrev pub decreases-settle_bound : goal.decreases-settle_bound
decreases-settle_bound l = 5 * steps_left (term_of l.term.now) + 1

abbrev pub decreases-settle_part : goal.decreases-settle_part
decreases-settle_part l = 5 * steps_left (term_of l.term.now)
