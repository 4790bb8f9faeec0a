use Rattle.nrca_sets.specs.Pairs.{pair_value}
use Rattle.nrca_sets.specs.Laws.Valid.{one_valid}
use Rattle.nrca_sets.proofs.validity.valid_pairs.Goals as goal

pub loop-pair-preserved : goal.loop-pair-preserved
loop-pair-preserved c = one_valid pair_value c.args.pairs.now c.loop-pair.pair-index (0, 0) c.loop-pair-test.true c.loop-pair.invariant c.valid_pair.ensures
