use Rattle.std.proofs.Common.{◌*◌, ◌∙◌, ap}
use Rattle.aql_value.specs.Limits.{saturate}
use Rattle.nrca_ranges.proofs.Lists.{product-next}
use Rattle.nrca_ranges.proofs.certain.least_product.Goals as goal

pub loop-dim-preserved : goal.loop-dim-preserved
loop-dim-preserved c =
    product-next c.args.dims.now c.loop-dim.dim-index c.dim-item.result c.loop-dim.found c.saturating_mul-found.result c.loop-dim-test.true c.dim-item.is c.loop-dim.invariant
    (c.saturating_mul-found.ensures ∙ ap (λ i. saturate (c.loop-dim.found * i.low)) c.number_interval.ensures)
