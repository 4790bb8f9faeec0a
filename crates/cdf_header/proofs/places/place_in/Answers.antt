use Rattle.std.proofs.Common.{◌≡◌, ◌∙◌, ap, sym, map, min, ◌^◌, ◌-◌, ◌+◌, ◌*◌, drop, get_or}
use Rattle.cdf_header.specs.Header.{var}
use Rattle.cdf_header.specs.Format.{type_size}
use Rattle.aql_value.specs.Indices.{offset}
use Rattle.cdf_header.specs.Places.{lens, recsize}
use Rattle.cdf_header.proofs.Saturate.{place_record, place_sat, rest_is}
use Rattle.cdf_header.proofs.places.place_in.Goals as goal

pub returns-then-over_records : goal.returns-then-over_records
returns-then-over_records c =
    let off : c.offset_of-cells.result ≡ min (offset (lens c.args.dims.now (drop 1 c.args.v.now.ids.items)) (drop 1 c.args.at.now)) (2 ^ 128 - 1)
    = rw (rest_is c.args.at.now, rest_is c.deref.result.now, c.deref.ensures.value) at c.offset_of-cells.ensures in
    let e = place_record c.args.dims.now (map var c.args.vars.now) (var c.args.v.now) c.args.at.now c.in-len1-up.len_at_least (sym c.over_records.ensures ∙ c.if-over_records.true) in
    place_sat (get_or c.args.at.now 0 0) (type_size c.args.v.now.kind) (recsize c.args.dims.now (map var c.args.vars.now)) c.args.v.now.begin
    (offset (lens c.args.dims.now (drop 1 c.args.v.now.ids.items)) (drop 1 c.args.at.now)) c.record_bytes.result c.saturating_mul.result c.saturating_add-here.result c.offset_of-cells.result c.saturating_mul-then-over_records.result c.saturating_add.result (2 ^ 128 - 1)
    c.record_bytes.ensures off c.saturating_mul.ensures (c.saturating_add-here.ensures ∙ ap (λ b. min (c.saturating_mul.result + b) (2 ^ 128 - 1)) c.from-begin.ensures)
    (c.saturating_mul-then-over_records.ensures ∙ ap (λ s. min (c.offset_of-cells.result * s) (2 ^ 128 - 1)) (c.from-size.ensures ∙ c.size_of.ensures.is)) c.saturating_add.ensures
    ∙ ap (λ p. min p (2 ^ 128 - 1)) (sym e)
