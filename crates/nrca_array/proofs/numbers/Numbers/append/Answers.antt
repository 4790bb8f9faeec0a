use Rattle.std.proofs.Common.{◌≡◌, ◌+◌, ◌++◌, ℕ, length, arith, ap, sym, ◌∙◌, subst}
use Rattle.nrca_array.specs.Kept.{width_bytes, numbers_at, IsSpelled}
use Rattle.nrca_array.proofs.Spelling.{length-numbers_at, joined-reads, joined-is, joined-fills, count_within}
use Rattle.nrca_array.proofs.numbers.Numbers.append.Goals as goal
use Rattle.nrca_array.proofs.numbers.Numbers.append.Goals.{In_ok-extend_from_slice}

others-is : (c : In_ok-extend_from_slice) → IsSpelled (width_bytes c.self.inside.width) c.others.inside.bytes.items (numbers_at (width_bytes c.self.inside.width) c.others.inside.count c.others.inside.bytes.items)
others-is c =
    let e : width_bytes c.others.inside.width ≡ width_bytes c.self.inside.width = sym c.bytes-2.ensures ∙ sym c.if-bytes.true ∙ c.bytes.ensures in
    let P : ℕ → Type 0 = λ w. IsSpelled w c.others.inside.bytes.items (numbers_at w c.others.inside.count c.others.inside.bytes.items) in
    subst P e c.others.invariant

pub overflow_add-result : goal.overflow_add-result
overflow_add-result c =
    let w = width_bytes c.self.inside.width in
    let f = joined-fills w c.self.inside.count c.others.inside.count c.self.inside.bytes.items c.others.inside.bytes.items c.extend_from_slice.new.self.items _ _ c.self.invariant (others-is c) (c.in_ok-extend_from_slice.ensures.items ∙ ap (λ l. c.self.inside.bytes.items ++ l) c.deref.ensures.value) (length-numbers_at w c.self.inside.count c.self.inside.bytes.items) (length-numbers_at w c.others.inside.count c.others.inside.bytes.items) in
    omega (arith, count_within c.self.inside.width (c.self.inside.count + c.others.inside.count) (length c.extend_from_slice.new.self.items) (omega (arith, f)))

pub invariant_of-result : goal.invariant_of-result
invariant_of-result c =
    let w = width_bytes c.self.inside.width in
    joined-is w c.self.inside.count c.others.inside.count c.self.inside.bytes.items c.others.inside.bytes.items c.extend_from_slice.new.self.items _ _ c.self.invariant (others-is c) (c.in_ok-extend_from_slice.ensures.items ∙ ap (λ l. c.self.inside.bytes.items ++ l) c.deref.ensures.value) (length-numbers_at w c.self.inside.count c.self.inside.bytes.items) (length-numbers_at w c.others.inside.count c.others.inside.bytes.items)

pub returns-then-bytes : goal.returns-then-bytes
returns-then-bytes c =
    let w = width_bytes c.self.inside.width in
    let d = (goal.at.returns-then-bytes c).In_ok-extend_from_slice in
    joined-reads w c.self.inside.count c.others.inside.count c.self.inside.bytes.items c.others.inside.bytes.items c.extend_from_slice.new.self.items _ _ c.self.invariant (others-is d) (c.in_ok-extend_from_slice.ensures.items ∙ ap (λ l. c.self.inside.bytes.items ++ l) c.deref.ensures.value) (length-numbers_at w c.self.inside.count c.self.inside.bytes.items) (length-numbers_at w c.others.inside.count c.others.inside.bytes.items)
    ∙ (let e = sym c.bytes-2.ensures ∙ sym c.if-bytes.true ∙ c.bytes.ensures in
    λ i. c.self.view_is i ++ (ap (λ v. numbers_at v c.others.inside.count c.others.inside.bytes.items) (sym e) ∙ c.others.view_is) i)
