use Rattle.std.proofs.Common.{◌<◌, ◌*◌, length, drop, arith, ap, sym, ◌∙◌}
use Rattle.std.specs.Prelude.{slice_index}
use Rattle.byteorder.specs.Endian.{little_number}
use Rattle.nrca_array.specs.Kept.{width_bytes}
use Rattle.nrca_array.proofs.Spelling.{filled, room, length-numbers_at, numbers_at-get}
use Rattle.nrca_array.proofs.numbers.Numbers.get.Goals as goal

pub number_at-requires : goal.number_at-requires
number_at-requires c =
    let w = width_bytes c.self.inside.width in
    let bytes = c.self.inside.bytes.items in
    let many = length-numbers_at w c.self.inside.count bytes in
    let within : c.args.at < c.self.inside.count = omega (arith, c.requires, ap length c.self.view_is, many) in
    let fill = filled w c.self.inside.count bytes c.self.invariant in
    omega (arith, room w c.self.inside.count c.args.at (length bytes) within (omega (arith, fill)), ap length c.deref.ensures.value)

pub returns : goal.returns
returns c =
    let w = width_bytes c.self.inside.width in
    let bytes = c.self.inside.bytes.items in
    let many = length-numbers_at w c.self.inside.count bytes in
    let within : c.args.at < c.self.inside.count = omega (arith, c.requires, ap length c.self.view_is, many) in
    c.number_at.ensures
    ∙ ap (λ l. little_number w (drop (c.args.at * w) l)) c.deref.ensures.value
    ∙ sym (numbers_at-get w c.self.inside.count bytes c.args.at within)
    ∙ ap (λ l. slice_index l c.args.at) c.self.view_is
