use Rattle.std.proofs.Common.{◌∙◌, refl, arith}
use Rattle.std.proofs.Math.ListN.{length-set}
use Rattle.nrca_ranges.specs.declared.interval.Interval.{Interval}
use Rattle.nrca_ranges.proofs.Lists.{widened}
use Rattle.nrca_ranges.proofs.operations.widen.Goals as goal

pub loop-i-preserved : goal.loop-i-preserved
loop-i-preserved c =
    let d : Interval = record { low = 0; high = 0 } in
    record {
      long = length-set c.loop-i.a.items c.loop-i.i c.hull-wide.result ∙ c.loop-i.invariant.long;
      wide = widened c.args.a.now.items c.args.b.now c.loop-i.a.items _ c.loop-i.i c.index.result.now d c.hull-wide.result (omega (arith, c.loop-i.invariant.long)) c.requires c.loop-i.invariant.wide c.index.ensures c.hull-wide.ensures refl;
    }
