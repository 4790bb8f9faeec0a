-- The bytes are those of the numbers in the wider of the two widths, and then the new number's.
use Rattle.std.proofs.Common.{◌≡◌, ◌<◌, ◌^◌, ◌+◌, ◌*◌, ◌++◌, [], ◌∷◌, max, length, arith, ap, sym, ◌∙◌, subst, length-append}
use Rattle.byteorder.specs.Endian.{little_bytes}
use Rattle.nrca_array.specs.Packing.{spell_numbers, greatest, width_for, bytes_for}
use Rattle.nrca_array.specs.Kept.{width_bytes, numbers_at}
use Rattle.nrca_array.proofs.Spelling.{length-numbers_at, length-spelled, count_within, spelled-push, spelled-reads, spelled-is, width_fits, width_for-push, greatest-push, bytes_for-fits, fits_wider}
use Rattle.nrca_array.proofs.numbers.Numbers.push.Goals as goal

pub widen-requires-clause-fits : goal.widen-requires-clause-fits
widen-requires-clause-fits c =
    let ns = numbers_at (width_bytes c.self.inside.width) c.self.inside.count c.self.inside.bytes.items in
    subst (λ w. greatest ns < 256 ^ w) (sym c.self.invariant.least) (width_fits ns c.self.invariant.small)

pub put-requires : goal.put-requires
put-requires c =
    let v = width_bytes c.in_ok-width.width in
    fits_wider c.args.x (bytes_for c.args.x) v (bytes_for-fits c.args.x (omega arith)) (omega (arith, c.in_ok-width.ensures.width, c.least.ensures))

pub overflow_add-result : goal.overflow_add-result
overflow_add-result c =
    let w = width_bytes c.self.inside.width in
    let v = width_bytes c.in_ok-width.width in
    let x = c.args.x in
    let ns = numbers_at w c.self.inside.count c.self.inside.bytes.items in
    let many = length-numbers_at w c.self.inside.count c.self.inside.bytes.items in
    let spells : c.put.new.bytes.items ≡ spell_numbers v (ns ++ x ∷ []) = c.in_ok-put.ensures.ok ∙ ap (λ l. l ++ little_bytes v x) c.in_ok-width.ensures.bytes ∙ sym (spelled-push v ns x) in
    let all : (c.self.inside.count + 1) * v ≡ length c.put.new.bytes.items = ap (λ n. n * v) (let e : c.self.inside.count + 1 ≡ length (ns ++ x ∷ []) = omega (arith, length-append ns (x ∷ []), many) in e) ∙ sym (length-spelled v (ns ++ x ∷ [])) ∙ ap length (sym spells) in
    omega (arith, count_within c.in_ok-width.width (c.self.inside.count + 1) (length c.put.new.bytes.items) (omega (arith, all)))

pub invariant_of-result : goal.invariant_of-result
invariant_of-result c =
    let w = width_bytes c.self.inside.width in
    let v = width_bytes c.in_ok-width.width in
    let x = c.args.x in
    let ns = numbers_at w c.self.inside.count c.self.inside.bytes.items in
    let many = length-numbers_at w c.self.inside.count c.self.inside.bytes.items in
    let least : v ≡ width_for (ns ++ x ∷ []) = c.in_ok-width.ensures.width ∙ ap (max w) c.least.ensures ∙ ap (λ u. max u (bytes_for x)) c.self.invariant.least ∙ sym (width_for-push ns x) in
    let spells : c.put.new.bytes.items ≡ spell_numbers v (ns ++ x ∷ []) = c.in_ok-put.ensures.ok ∙ ap (λ l. l ++ little_bytes v x) c.in_ok-width.ensures.bytes ∙ sym (spelled-push v ns x) in
    spelled-is v _ _ (ns ++ x ∷ []) least (greatest-push ns x (2 ^ 128) c.self.invariant.small (omega arith)) spells (omega (arith, length-append ns (x ∷ []), many))

pub returns : goal.returns
returns c =
    let w = width_bytes c.self.inside.width in
    let v = width_bytes c.in_ok-width.width in
    let x = c.args.x in
    let ns = numbers_at w c.self.inside.count c.self.inside.bytes.items in
    let many = length-numbers_at w c.self.inside.count c.self.inside.bytes.items in
    let least : v ≡ width_for (ns ++ x ∷ []) = c.in_ok-width.ensures.width ∙ ap (max w) c.least.ensures ∙ ap (λ u. max u (bytes_for x)) c.self.invariant.least ∙ sym (width_for-push ns x) in
    let spells : c.put.new.bytes.items ≡ spell_numbers v (ns ++ x ∷ []) = c.in_ok-put.ensures.ok ∙ ap (λ l. l ++ little_bytes v x) c.in_ok-width.ensures.bytes ∙ sym (spelled-push v ns x) in
    spelled-reads v (c.self.inside.count + 1) c.put.new.bytes.items (ns ++ x ∷ []) least (greatest-push ns x (2 ^ 128) c.self.invariant.small (omega arith)) spells (omega (arith, length-append ns (x ∷ []), many))
    ∙ ap (λ l. l ++ x ∷ []) c.self.view_is
