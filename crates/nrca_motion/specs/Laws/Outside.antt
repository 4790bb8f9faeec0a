-- Terms outside of variables that they do not use: one variable after another, and the room that is left.
use Rattle.std.proofs.Common.{◌≡◌, ℕ, zero, suc, ◌+◌, ◌-◌, ◌<◌, ◌≤◌, ◌^◌, sym, ap, subst, ◌∙◌, arith}
use Rattle.nrca_term.specs.Term.{Term, WellFormed, weight_of}
use Rattle.nrca_term.specs.Nodes.{variable, bottom_term}
use Rattle.nrca_term.specs.Subst.{shift_term, subst_term, top_var, uses_of}
use Rattle.nrca_term.specs.Laws.Shift.{shift_term-twice, shift_term-none, top_var-shift_term, top_var-shift_le}
use Rattle.nrca_term.specs.Laws.SubstTops.{top_var-subst_le}
use Rattle.nrca_term.specs.Laws.WellFormed.{well_formed-shift}
use Rattle.nrca_rule_laws.specs.Laws.Unused.{shift-unused, subst-shifted, uses-shifted}
use Rattle.nrca_rule_laws.specs.Laws.Weights.{weight-shift}
use Rattle.nrca_motion.specs.Laws.Rotating.{well_formed-unshift}
use Rattle.nrca_motion.specs.Outside.{HasRoom}

-- one variable more
shift-next : (k : ℕ) (t : Term) → shift_term 0 (suc k) t ≡ shift_term 0 1 (shift_term 0 k t)
shift-next k t = sym (shift_term-twice 0 k 1 t ∙ (let z : k + 1 ≡ suc k = omega arith in ap (λ n. shift_term 0 n t) z))

-- terms that are equal under further variables are equal
pub shift-injective : (k : ℕ) (a b : Term) → WellFormed a → WellFormed b → shift_term 0 k a ≡ shift_term 0 k b → a ≡ b
shift-injective zero a b g h e = sym (shift_term-none 0 a) ∙ e ∙ shift_term-none 0 b
shift-injective (suc k) a b g h e =
    shift-injective k a b g h (
    sym (subst-shifted 0 bottom_term (shift_term 0 k a) (well_formed-shift 0 k a g))
    ∙ ap (subst_term 0 bottom_term) (sym (shift-next k a) ∙ e ∙ shift-next k b)
    ∙ subst-shifted 0 bottom_term (shift_term 0 k b) (well_formed-shift 0 k b h)
    )

-- out of one variable more that is not used
pub outside-next : (i : ℕ) (t s w : Term) → WellFormed s → t ≡ shift_term 0 i s → uses_of 0 s ≡ 0 → t ≡ shift_term 0 (i + 1) (subst_term 0 w s)
outside-next i t s w h e u =
    e ∙ ap (shift_term 0 i) (shift-unused 0 w s h u) ∙ shift_term-twice 0 1 i (subst_term 0 w s)
    ∙ (let z : 1 + i ≡ i + 1 = omega arith in ap (λ n. shift_term 0 n (subst_term 0 w s)) z)

-- a variable that is used stays
pub outside-none : (i count : ℕ) (t s : Term) → WellFormed t → t ≡ shift_term 0 i s → i < count → (uses_of 0 s ≡ 0 → ⊥) → (u : Term) → t ≡ shift_term 0 count u → ⊥
outside-none i count t s h e l n u k =
    let c : i + (count - i) ≡ count = omega (arith, l) in
    let d : count - i ≡ suc (count - i - 1) = omega (arith, l) in
    let f : s ≡ shift_term 0 (count - i) u =
    shift-injective i s (shift_term 0 (count - i) u) (well_formed-unshift 0 i s (subst WellFormed e h))
    (well_formed-shift 0 (count - i) u (well_formed-unshift 0 count u (subst WellFormed k h)))
    (sym e ∙ k ∙ (let z : count ≡ count - i + i = omega (arith, l) in ap (λ m. shift_term 0 m u) z) ∙ sym (shift_term-twice 0 (count - i) i u)) in
    n (ap (uses_of 0) (f ∙ ap (λ m. shift_term 0 m u) d ∙ shift-next (count - i - 1) u) ∙ uses-shifted 0 (shift_term 0 (count - i - 1) u))

-- a shifted term uses none of the variables that it is shifted past
pub outside-unused : (count : ℕ) (t u : Term) → 1 ≤ count → t ≡ shift_term 0 count u → uses_of 0 t ≡ 0
outside-unused zero t u l e = absurd (omega (arith, l))
outside-unused (suc count) t u l e = ap (uses_of 0) (e ∙ shift-next count u) ∙ uses-shifted 0 (shift_term 0 count u)

-- room for the variables of the term outside of one more
pub outside-room : (i : ℕ) (t s : Term) → WellFormed t → t ≡ shift_term 0 i s → HasRoom t → top_var (subst_term 0 bottom_term s) < 2 ^ 64
outside-room i t s h e r =
    let w : weight_of t ≡ weight_of s = ap weight_of e ∙ weight-shift 0 i s in
    let v = top_var-shift_term 0 i s in
    omega (arith, top_var-subst_le 0 bottom_term s 4000000 (well_formed-unshift 0 i s (subst WellFormed e h)) (omega (arith, r, v, ap top_var e)) (omega (arith, r, w)))

-- room for a body outside of which its let goes
pub rotated-room : (k : ℕ) (b : Term) → WellFormed b → HasRoom b → k ≤ 4000000 → top_var (subst_term 0 (variable k) (shift_term (suc k) 1 b)) < 2 ^ 64
rotated-room k b h r l =
    let v = top_var-shift_le (suc k) 1 b in
    omega (arith, top_var-subst_le 0 (variable k) (shift_term (suc k) 1 b) 8000001 (well_formed-shift (suc k) 1 b h) (omega (arith, v, r)) (omega (arith, r, l, weight-shift (suc k) 1 b)))
