use Rattle.std.proofs.Common.{◌≡◌, ◌++◌, take}
use Rattle.nrca_ranges.specs.Walk.{told_each, summaries_there, KeepsFacts}
use Rattle.nrca_ranges.proofs.entering.first_told.Given as goal

abbrev pub invariant-loop-i : goal.invariant-loop-i
invariant-loop-i l = record {
  back : KeepsFacts l.initial.progress l.progress;
  told : told_each l.progress.told.items ≡ told_each l.initial.progress.told.items ++ take l.i (summaries_there l.ctx l.ctx.depth l.parent l.initial.progress);
}
