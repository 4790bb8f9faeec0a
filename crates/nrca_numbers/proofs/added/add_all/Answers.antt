use Rattle.std.proofs.Common.{arith}
use Rattle.nrca_numbers.specs.declared.sets.AtMostOne.TheVariants as at_most
use Rattle.nrca_numbers.proofs.Members.{all_more}
use Rattle.nrca_numbers.proofs.added.add_all.Goals as goal

pub loop-set-preserved : goal.loop-set-preserved
loop-set-preserved c = record {
  all = all_more c.args.members c.loop-set.all c.in_ok-all.all c.args.sets.now c.loop-set.set-index at_most.Nothing (omega arith) c.loop-set.invariant.all c.in_ok-all.ensures.all;
  recent = c.in_ok-all.ensures.recent;
}
