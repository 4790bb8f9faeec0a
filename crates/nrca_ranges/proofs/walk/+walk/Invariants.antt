use Rattle.std.proofs.Common.{◌≡◌, ◌+◌, ◌*◌, ◌++◌, take}
use Rattle.nrca_term.specs.Term.{weight_of}
use Rattle.nrca_term.specs.View.{term_of}
use Rattle.nrca_ranges.specs.Walk.{told_each, summaries_there, KeepsFacts}
use Rattle.nrca_ranges.proofs.walk.+walk.Given as goal

abbrev pub invariant-walk-loop-i : goal.invariant-walk-loop-i
invariant-walk-loop-i l = record {
  back : KeepsFacts l.fn.progress l.progress;
  told : told_each l.progress.told.items ≡ told_each l.fn.progress.told.items ++ take l.i (summaries_there l.ctx l.depth l.term l.fn.progress);
}

abbrev pub decreases-walk : goal.decreases-walk
decreases-walk l = 2 * weight_of (term_of l.term.now) + 1

abbrev pub decreases-walk_part : goal.decreases-walk_part
decreases-walk_part l = 2 * weight_of (term_of l.term.now)
