use Rattle.std.proofs.Common.{◌≡◌, ◌<◌, ◌*◌, ◌+◌, length, drop, arith, ap, sym, ◌∙◌, Some, nat_eq, get_or}
use Rattle.std.specs.Prelude.{slice_get}
use Rattle.byteorder.specs.Endian.{little_number}
use Rattle.nrca_array.specs.Kept.{width_bytes}
use Rattle.nrca_array.proofs.Spelling.{room}
use Rattle.nrca_array.proofs.PairsKept.{length-pairs, pairs-fill, pairs-get}
use Rattle.nrca_array.proofs.pairs.Pairs.get.Goals as goal

pub overflow_add-truths : goal.overflow_add-truths
overflow_add-truths c =
    let w = width_bytes c.self.inside.width in
    let n = c.self.inside.count in
    let many = length-pairs w n c.self.inside.bytes.items c.self.invariant in
    let e : n * c.bytes.result ≡ n * w = ap (λ k. n * k) c.bytes.ensures in
    omega (arith, c.requires, ap length c.self.view_is, many, pairs-fill w n c.self.inside.bytes.items c.self.invariant, e)

pub index-requires : goal.index-requires
index-requires c =
    let w = width_bytes c.self.inside.width in
    let n = c.self.inside.count in
    let many = length-pairs w n c.self.inside.bytes.items c.self.invariant in
    let e : n * c.bytes.result ≡ n * w = ap (λ k. n * k) c.bytes.ensures in
    omega (arith, c.requires, ap length c.self.view_is, many, pairs-fill w n c.self.inside.bytes.items c.self.invariant, e)

pub number_at-requires : goal.number_at-requires
number_at-requires c =
    let w = width_bytes c.self.inside.width in
    let n = c.self.inside.count in
    let bytes = c.self.inside.bytes.items in
    let within : c.args.at < n = omega (arith, c.requires, ap length c.self.view_is, length-pairs w n bytes c.self.invariant) in
    let fill = pairs-fill w n bytes c.self.invariant in
    omega (arith, room w n c.args.at (length bytes) within (omega (arith, fill)), ap length c.deref.ensures.value)

pub returns : goal.returns
returns c =
    let w = width_bytes c.self.inside.width in
    let n = c.self.inside.count in
    let bytes = c.self.inside.bytes.items in
    let within : c.args.at < n = omega (arith, c.requires, ap length c.self.view_is, length-pairs w n bytes c.self.invariant) in
    let read = c.number_at.ensures ∙ ap (λ l. little_number w (drop (c.args.at * w) l)) c.deref.ensures.value in
    ap (λ ps. slice_get ps c.args.at) (sym c.self.view_is)
    ∙ pairs-get w n bytes c.self.invariant c.args.at c.index.result.now within (c.index.ensures ∙ ap (λ k. get_or bytes (n * k + c.args.at) c.index.result.now) c.bytes.ensures)
    ∙ ap (λ x. Some (nat_eq c.index.result.now 1, x)) (sym read)
