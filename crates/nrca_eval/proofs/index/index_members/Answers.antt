use Rattle.std.proofs.Common.{sym}
use Rattle.nrca_forms.specs.Indexing.{pairs_of}
use Rattle.nrca_forms.specs.Laws.Index.{run_ranked}
use Rattle.nrca_eval.proofs.index.index_members.Goals as goal

pub index_pairs-requires : goal.index_pairs-requires
index_pairs-requires g c = run_ranked c.args.rank c.args.set 0 _ (pairs_of c.in_ok-pairs.pairs) (sym c.in_ok-pairs.ensures)
