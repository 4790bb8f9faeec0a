use Rattle.std.proofs.Common.{◌≡◌}
use Rattle.nrca_forms.specs.Indexing.{pairs_of, pairs_run}
use Rattle.nrca_forms.proofs.index.index_run.Given as goal

abbrev pub invariant-loop-i : goal.invariant-loop-i
invariant-loop-i l = pairs_of l.pairs ≡ pairs_run l.rank l.set l.from l.i
