use Rattle.std.proofs.Common.{◌∙◌, arith, min, ◌^◌, ◌-◌}
use Rattle.aql_value.specs.Indices.{offset}
use Rattle.cdf_header.specs.Places.{lens}
use Rattle.cdf_header.proofs.Saturate.{offset_goes, offset_done, offset_starts}
use Rattle.cdf_header.proofs.places.offset_of.Goals as goal

pub ids-init : goal.ids-init
ids-init c = record { within = omega arith; so_far = offset_starts c.args.dims.now c.args.ids.now c.args.at.now (2 ^ 128 - 1) c.requires }

pub ids-preserved : goal.ids-preserved
ids-preserved c = record {
  within = omega (arith, c.saturating_add-all.ensures);
  so_far = offset_goes c.args.dims.now c.args.ids.now c.args.at.now c.ids.k c.ids.all c.from-len.result c.saturating_add-all.result c.saturating_mul.result (2 ^ 128 - 1) (min (offset (lens c.args.dims.now c.args.ids.now) c.args.at.now) (2 ^ 128 - 1))
      c.ids-test.true (omega (arith, c.ids-test.true, c.requires)) (c.from-len.ensures ∙ c.len_of.ensures) c.saturating_mul.ensures c.saturating_add-all.ensures c.ids.invariant.so_far;
}

pub returns : goal.returns
returns c = offset_done c.args.dims.now c.args.ids.now c.args.at.now c.ids.k c.ids.all (2 ^ 128 - 1) (min (offset (lens c.args.dims.now c.args.ids.now) c.args.at.now) (2 ^ 128 - 1)) c.ids-test.false c.ids.invariant.within c.ids.invariant.so_far
