-- Each number is read at its place and written behind those before it.
use Rattle.std.proofs.Common.{◌<◌, ◌*◌, ◌++◌, length, drop, take, get_or, arith, ap, sym, ◌∙◌}
use Rattle.std.proofs.lemmas.List.{take_more, take_all}
use Rattle.byteorder.specs.Endian.{little_number, little_bytes}
use Rattle.nrca_array.specs.Packing.{spell_numbers}
use Rattle.nrca_array.specs.Kept.{width_bytes, numbers_at}
use Rattle.nrca_array.proofs.Spelling.{room, length-numbers_at, length-spelled, numbers_at-get, spelled-push}
use Rattle.nrca_array.proofs.numbers.widen.Goals as goal

pub number_at-requires : goal.number_at-requires
number_at-requires c =
    let w = width_bytes c.args.width in
    let bytes = c.args.bytes.items in
    let fill = ap length c.requires.spells ∙ length-spelled w (numbers_at w c.args.count bytes) ∙ ap (λ k. k * w) (length-numbers_at w c.args.count bytes) in
    omega (arith, room w c.args.count c.loop-i.i (length bytes) (omega arith) (omega (arith, fill)), ap length c.deref.ensures.value)

pub loop-i-preserved : goal.loop-i-preserved
loop-i-preserved c =
    let w = width_bytes c.args.width in
    let v = width_bytes c.args.least in
    let i = c.loop-i.i in
    let bytes = c.args.bytes.items in
    let ns = numbers_at w c.args.count bytes in
    let many = length-numbers_at w c.args.count bytes in
    let within : i < c.args.count = omega arith in
    let read = c.number_at.ensures ∙ ap (λ l. little_number w (drop (i * w) l)) c.deref.ensures.value ∙ sym (numbers_at-get w c.args.count bytes i within) in
    c.in_ok-put.ensures.ok
    ∙ ap (λ l. l ++ little_bytes v c.number_at.result) c.loop-i.invariant
    ∙ ap (λ x. spell_numbers v (take i ns) ++ little_bytes v x) read
    ∙ sym (spelled-push v (take i ns) (get_or ns i 0))
    ∙ ap (spell_numbers v) (sym (take_more ns i 0 (omega (arith, many, within))))

pub returns-clause-bytes : goal.returns-clause-bytes
returns-clause-bytes c =
    let w = width_bytes c.args.width in
    let bytes = c.args.bytes.items in
    let many = length-numbers_at w c.args.count bytes in
    c.loop-i.invariant ∙ ap (spell_numbers (width_bytes c.args.least)) (take_all c.loop-i.i (numbers_at w c.args.count bytes) (omega (arith, many)))
