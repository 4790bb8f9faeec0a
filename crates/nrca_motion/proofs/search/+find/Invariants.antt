use Rattle.std.proofs.Common.{◌≡◌, ◌+◌, ◌*◌}
use Rattle.nrca_term.specs.Term.{weight_of}
use Rattle.nrca_term.specs.View.{term_of}
use Rattle.nrca_ranges.specs.Context.{context_of}
use Rattle.nrca_ranges.specs.Shapes.{ranges_of}
use Rattle.nrca_motion.specs.Found.{QuietParts}
use Rattle.nrca_motion.proofs.search.+find.Given as goal

abbrev pub invariant-find_in_parts-loop-i : goal.invariant-find_in_parts-loop-i
invariant-find_in_parts-loop-i l = record {
  back : context_of l.ctx ≡ context_of l.fn.ctx;
  ranges : ranges_of l.ctx ≡ ranges_of l.fn.ctx;
  globals : l.ctx.globals ≡ l.fn.ctx.globals;
  parts : QuietParts (ranges_of l.fn.ctx) (context_of l.fn.ctx) (term_of l.term) l.i;
}

abbrev pub decreases-find : goal.decreases-find
decreases-find l = 2 * weight_of (term_of l.term.now) + 1

abbrev pub decreases-find_in_parts : goal.decreases-find_in_parts
decreases-find_in_parts l = 2 * weight_of (term_of l.term.now)
