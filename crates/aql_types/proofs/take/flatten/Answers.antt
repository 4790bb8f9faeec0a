use Rattle.std.proofs.Common.{arith}
use Rattle.aql_types.proofs.Keeping.{keeps_both, keeps_none, flat_all}
use Rattle.aql_types.proofs.take.flatten.Goals as goal

pub loop-i-init : goal.loop-i-init
loop-i-init c = record { keeps = keeps_none c.args.ns.now; down = c.requires.down; flat = λ i j lt e. let bad : ⊥ = omega (arith, lt) in absurd bad }

pub loop-i-preserved : goal.loop-i-preserved
loop-i-preserved c =
    let s = c.flatten_one.ensures in record {
      keeps = keeps_both c.args.ns.now c.loop-i.ns c.flatten_one.new.ns c.loop-i.invariant.keeps s.keeps;
      down = s.down;
      flat = s.flat;
    }

pub returns-clause-flat : goal.returns-clause-flat
returns-clause-flat c = flat_all c.loop-i.ns c.loop-i.i (omega arith) c.loop-i.invariant.flat
