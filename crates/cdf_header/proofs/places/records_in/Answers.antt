use Rattle.std.proofs.Common.{◌∙◌, sym, arith, map, ◌^◌, ◌-◌}
use Rattle.cdf_header.specs.Header.{var}
use Rattle.cdf_header.proofs.Least.{records_streamed}
use Rattle.cdf_header.proofs.places.records_in.Goals as goal

pub returns-then-is_streaming : goal.returns-then-is_streaming
returns-then-is_streaming c =
    records_streamed (record { bytes = c.args.bytes; version = c.args.version; numrecs = c.args.numrecs; dims = c.args.dims.now; vars = map var c.args.vars.now })
    c.record_bytes.result c.least_begin.result (2 ^ 128 - 1) c.streamed_in.result
    (sym c.is_streaming.ensures ∙ c.if-is_streaming.true) (omega (arith, c.ranges.bytes.fits)) c.record_bytes.ensures c.least_begin.ensures c.streamed_in.ensures
