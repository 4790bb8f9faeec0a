use Rattle.std.proofs.Common.{◌∙◌, arith, min, ◌^◌, ◌-◌}
use Rattle.aql_value.specs.Indices.{product}
use Rattle.cdf_header.specs.Places.{lens}
use Rattle.cdf_header.proofs.Saturate.{product_goes, product_done}
use Rattle.cdf_header.proofs.places.product_of.Goals as goal

pub ids-preserved : goal.ids-preserved
ids-preserved c = record {
  within = omega (arith, c.saturating_mul-all.ensures);
  so_far = product_goes c.args.dims.now c.args.ids.now c.ids.k c.ids.all c.from-len.result c.saturating_mul-all.result (2 ^ 128 - 1) (min (product (lens c.args.dims.now c.args.ids.now)) (2 ^ 128 - 1))
      c.ids-test.true (c.from-len.ensures ∙ c.len_of.ensures) c.saturating_mul-all.ensures c.ids.invariant.so_far;
}

pub returns : goal.returns
returns c = product_done c.args.dims.now c.args.ids.now c.ids.k c.ids.all (2 ^ 128 - 1) (min (product (lens c.args.dims.now c.args.ids.now)) (2 ^ 128 - 1)) c.ids-test.false c.ids.invariant.within c.ids.invariant.so_far
