use Rattle.nrca_ranges.proofs.Gathering.{gather-entry, firm-of, certain-of}
use Rattle.nrca_ranges.proofs.walk.gather_all.Goals as goal

pub loop-told-preserved : goal.loop-told-preserved
loop-told-preserved c = record {
  firm =
      gather-entry (λ s. s.firm) c.args.all c.loop-told.firm c.told-item.result.firm c.gather-firm.result c.args.parts.now c.loop-told.told-index c.told-item.result c.loop-told-test.true c.told-item.is (firm-of c.told-item.result) c.gather-firm.ensures c.loop-told.invariant.firm;
  certain =
      gather-entry (λ s. s.certain) c.args.all c.loop-told.certain c.told-item.result.certain c.gather-certain.result c.args.parts.now c.loop-told.told-index c.told-item.result c.loop-told-test.true c.told-item.is (certain-of c.told-item.result) c.gather-certain.ensures c.loop-told.invariant.certain;
}
