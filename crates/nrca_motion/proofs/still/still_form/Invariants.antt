use Rattle.nrca_motion.specs.Counting.{number_of}
use Rattle.nrca_motion.specs.Lowering.{in_loops, measure_of}
use Rattle.nrca_term.specs.View.{term_of}
use Rattle.nrca_ranges.specs.Shapes.{known_shapes}
use Rattle.nrca_motion.specs.Progress.{IsUnderWay}
use Rattle.nrca_motion.proofs.still.still_form.Given as goal

abbrev pub invariant-loop-progress : goal.invariant-loop-progress
invariant-loop-progress l = IsUnderWay (known_shapes l.fn.begun.ctx) (term_of l.fn.begun.term) l.progress

abbrev pub decreases-loop-progress : goal.decreases-loop-progress
decreases-loop-progress l = measure_of (number_of in_loops (term_of l.fn.begun.term)) (term_of l.progress.term)
