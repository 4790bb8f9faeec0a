-- The bytes are those of the numbers in the wider of the two widths, and then the new numbers'.
use Rattle.std.proofs.Common.{◌≡◌, ◌<◌, ◌^◌, ◌+◌, ◌++◌, max, length, refl, arith, ap, sym, ◌∙◌, subst}
use Rattle.nrca_array.specs.Packing.{spell_numbers, greatest, bytes_for}
use Rattle.nrca_array.specs.Kept.{width_bytes, numbers_at}
use Rattle.nrca_array.proofs.Spelling.{length-numbers_at, count_within, width_fits}
use Rattle.nrca_array.proofs.Writing.{others_fit, extended-reads, extended-is, extended-fills}
use Rattle.nrca_array.proofs.numbers.Numbers.extend.Goals as goal
use Rattle.nrca_array.proofs.numbers.Numbers.extend.Goals.{In_ok-put_all}

pub widen-requires-clause-fits : goal.widen-requires-clause-fits
widen-requires-clause-fits c =
    let ns = numbers_at (width_bytes c.self.inside.width) c.self.inside.count c.self.inside.bytes.items in
    subst (λ w. greatest ns < 256 ^ w) (sym c.self.invariant.least) (width_fits ns c.self.invariant.small)

-- the width is wide enough for all
wide : (c : In_ok-put_all) → width_bytes c.in_ok-width.width ≡ max (width_bytes c.self.inside.width) (bytes_for (greatest c.args.xs.now))
wide c = c.in_ok-width.ensures.width ∙ ap (max (width_bytes c.self.inside.width)) (c.least-least.ensures ∙ ap bytes_for (c.from.ensures ∙ c.greatest_of.ensures))

-- the bytes are those of the numbers so far, and then of the others
bytes : (c : In_ok-put_all) → c.put_all.new.bytes.items ≡ spell_numbers (width_bytes c.in_ok-width.width) (numbers_at (width_bytes c.self.inside.width) c.self.inside.count c.self.inside.bytes.items) ++ spell_numbers (width_bytes c.in_ok-width.width) c.args.xs.now
bytes c = c.in_ok-put_all.ensures ∙ ap (λ l. l ++ spell_numbers (width_bytes c.in_ok-width.width) c.args.xs.now) c.in_ok-width.ensures.bytes

small : (c : In_ok-put_all) → greatest c.args.xs.now < 2 ^ 128
small c = omega (arith, c.greatest_of.ensures)

pub put_all-requires : goal.put_all-requires
put_all-requires c =
    let least = c.least-least.ensures ∙ ap bytes_for (c.from.ensures ∙ c.greatest_of.ensures) in
    others_fit (width_bytes c.self.inside.width) (width_bytes c.in_ok-width.width) c.args.xs.now (omega (arith, c.greatest_of.ensures)) (c.in_ok-width.ensures.width ∙ ap (max (width_bytes c.self.inside.width)) least)

pub overflow_add-result : goal.overflow_add-result
overflow_add-result c =
    let w = width_bytes c.self.inside.width in
    let all = extended-fills w (width_bytes c.in_ok-width.width) c.self.inside.count (length c.args.xs.now) c.self.inside.bytes.items c.put_all.new.bytes.items _ c.args.xs.now c.self.invariant (small c) (wide c) (bytes c) (length-numbers_at w c.self.inside.count c.self.inside.bytes.items) refl in
    omega (arith, count_within c.in_ok-width.width (c.self.inside.count + length c.args.xs.now) (length c.put_all.new.bytes.items) (omega (arith, all)))

pub invariant_of-result : goal.invariant_of-result
invariant_of-result c =
    let w = width_bytes c.self.inside.width in
    extended-is w (width_bytes c.in_ok-width.width) c.self.inside.count (length c.args.xs.now) c.self.inside.bytes.items c.put_all.new.bytes.items _ c.args.xs.now c.self.invariant (small c) (wide c) (bytes c) (length-numbers_at w c.self.inside.count c.self.inside.bytes.items) refl

pub returns : goal.returns
returns c =
    let w = width_bytes c.self.inside.width in
    extended-reads w (width_bytes c.in_ok-width.width) c.self.inside.count (length c.args.xs.now) c.self.inside.bytes.items c.put_all.new.bytes.items _ c.args.xs.now c.self.invariant (small c) (wide c) (bytes c) (length-numbers_at w c.self.inside.count c.self.inside.bytes.items) refl
    ∙ ap (λ l. l ++ c.args.xs.now) c.self.view_is
