use Rattle.std.proofs.Common.{◌≡◌, ◌∙◌}
use Rattle.nrca_forms.specs.Laws.Index.{pairs_split}
use Rattle.nrca_forms.specs.Indexing.{pairs_of, pairs_run}
use Rattle.nrca_loops.specs.Runs.{lists_join}
use Rattle.nrca_eval.proofs.Joined.{joined_pieces}
use Rattle.nrca_eval.proofs.index.index_pieces.Goals as goal

pub returns : goal.returns
returns g c =
    c.in_ok-joined_pairs.ensures
    ∙ joined_pieces (λ a b d. pairs_of d ≡ pairs_run c.args.rank c.args.set.now a b) pairs_of lists_join (λ a b. pairs_run c.args.rank c.args.set.now a b) c.args.count (λ a b d p. p)
    (λ a m b low high. pairs_split c.args.rank c.args.set.now a m b low high) c.in_ok-pairs.pairs.items c.in_ok-pairs.ensures.joined
