-- Substitution in a node of two parts.
use Rattle.std.proofs.Common.{◌≡◌, ℕ, ◌+◌, ◌-◌, ◌<◌, ◌^◌, min, max, Some, None, Box, Global, Result, Ok, Err, OnOk, refl, sym, ap, subst, ◌∙◌, arith}
use Rattle.nrca_term.specs.Term.{Term, Form, node, none, part, variable_of, parts_of, child_of, binders_of, form_of, weight_of}
use Rattle.nrca_term.specs.Subst.{shift_term, subst_term, subst_parts, top_var}
use Rattle.nrca_term.specs.declared.term.Core.{Core}
use Rattle.nrca_term.specs.View.{term_of}
use Rattle.nrca_term.specs.Laws.Shift.{shift_term-none}
use Rattle.nrca_term.specs.Laws.Measure.{weight_of-child}
use Rattle.nrca_subst.specs.Depth.{IsDepth, DepthFits, Substitutes, SubstitutesBoth}
use Rattle.nrca_subst.proofs.Deeper.{substitutes-part, fits-part}
use Rattle.nrca_subst.proofs.SubstWalk.{subst_part, subst_node-other, top_var-subst}

-- a node of two parts, the second with k variables of its own
abbrev pub pair : Form → ℕ → Term → Term → Term
pair f k a b = node f (part 0 a (part k b none))

-- a part that has no variables of its own
same-part : (at : ℕ) (w t : Term) → subst_part at w 0 t ≡ subst_term at w t
same-part at w t = (let e : at + 0 ≡ at = omega arith in ap (λ m. subst_term m (shift_term 0 0 w) t) e) ∙ ap (λ x. subst_term at x t) (shift_term-none 0 w)

-- each part is lighter
pub pair-first : (f : Form) (k : ℕ) (a b t : Term) → t ≡ pair f k a b → weight_of a < weight_of t
pair-first f k a b t e = weight_of-child t 0 a (ap (λ x. child_of (parts_of x) 0) e)

pub pair-second : (f : Form) (k : ℕ) (a b t : Term) → t ≡ pair f k a b → weight_of b < weight_of t
pair-second f k a b t e = weight_of-child t 1 b (ap (λ x. child_of (parts_of x) 1) e)

-- variable numbers fit in each part
pub first-fits : (f : Form) (k at depth : ℕ) (w a b t : Term) → variable_of (form_of t) ≡ None → t ≡ pair f k a b → DepthFits at depth w t → DepthFits at depth w a
first-fits f k at depth w a b t o e h = (
  h.0,
  h.1,
  omega (
    arith,
    h.2,
    top_var-subst (at + h.0) (shift_term 0 h.0 w) t 0 a o (ap (λ x. child_of (parts_of x) 0) e),
    ap (λ m. top_var (subst_part (at + h.0) (shift_term 0 h.0 w) m a)) (ap (λ x. binders_of (parts_of x) 0) e),
    ap top_var (same-part (at + h.0) (shift_term 0 h.0 w) a),
  ),
)

pub second-fits : (f : Form) (k at depth : ℕ) (w a b t : Term) → variable_of (form_of t) ≡ None → t ≡ pair f k a b → DepthFits at depth w t → DepthFits at (min (depth + k) (2 ^ 128 - 1)) w b
second-fits f k at depth w a b t o e h = fits-part at depth k w t 1 b o (ap (λ x. child_of (parts_of x) 1) e) (sym (ap (λ x. binders_of (parts_of x) 1) e)) h

-- with the substitution done in both parts it is done in the node
pub pair-substituted : (f : Form) (k at depth : ℕ) (w a b c d t u : Term) → variable_of (form_of t) ≡ None → t ≡ pair f k a b → u ≡ pair f k c d →
    Substitutes at depth w a c → Substitutes at (min (depth + k) (2 ^ 128 - 1)) w b d → Substitutes at depth w t u
pair-substituted f k at depth w a b c d t u o e z h g n s =
    let y = shift_term 0 n w in
    z
    ∙ ap (λ x. pair f k x d) (h n s ∙ sym (same-part (at + n) y a))
    ∙ ap (λ x. pair f k (subst_part (at + n) y 0 a) x) (substitutes-part at depth k n w b d g s)
    ∙ subst_node-other (at + n) y f (subst_parts (at + n) y (part 0 a (part k b none))) (ap (λ x. variable_of (form_of x)) (sym e) ∙ o)
    ∙ ap (subst_term (at + n) y) (sym e)

-- the same of boxes, as they are lent
pub boxes-lighter : (f : Form) (k : ℕ) (a b x y : Box Core Global) (t : Term) → a ≡ x → b ≡ y → t ≡ pair f k (term_of a.value) (term_of b.value) → max (weight_of (term_of x.value)) (weight_of (term_of y.value)) < weight_of t
boxes-lighter f k a b x y t p q e =
    omega (
      arith,
      pair-first f k (term_of a.value) (term_of b.value) t e,
      pair-second f k (term_of a.value) (term_of b.value) t e,
      ap (λ z. weight_of (term_of z.value)) p,
      ap (λ z. weight_of (term_of z.value)) q,
    )

pub boxes-fit : (f : Form) (k at depth : ℕ) (w : Term) (a b x y : Box Core Global) (t : Term) → a ≡ x → b ≡ y → variable_of (form_of t) ≡ None → t ≡ pair f k (term_of a.value) (term_of b.value) → DepthFits at depth w t →
    DepthFits at depth w (term_of x.value) × DepthFits at (min (depth + k) (2 ^ 128 - 1)) w (term_of y.value)
boxes-fit f k at depth w a b x y t p q o e h = (
  subst (λ z. DepthFits at depth w (term_of z.value)) p (first-fits f k at depth w (term_of a.value) (term_of b.value) t o e h),
  subst (λ z. DepthFits at (min (depth + k) (2 ^ 128 - 1)) w (term_of z.value)) q (second-fits f k at depth w (term_of a.value) (term_of b.value) t o e h),
)

pub boxes-substituted : {A B : Type 0} (r : Result A B) (f : Form) (k at depth : ℕ) (w : Core) (a b x y c d : Box Core Global) (t u : Term) → a ≡ x → b ≡ y → variable_of (form_of t) ≡ None →
    t ≡ pair f k (term_of a.value) (term_of b.value) → u ≡ pair f k (term_of c.value) (term_of d.value) → OnOk r (SubstitutesBoth at depth k w (x, y) (c, d)) → OnOk r (Substitutes at depth (term_of w) t u)
boxes-substituted (Ok z) f k at depth w a b x y c d t u p q o e g h =
    pair-substituted f k at depth (term_of w) (term_of x.value) (term_of y.value) (term_of c.value) (term_of d.value) t u o
    (e ∙ ap (λ z. pair f k (term_of z.value) (term_of b.value)) p ∙ ap (λ z. pair f k (term_of x.value) (term_of z.value)) q) g h.0 h.1
boxes-substituted (Err z) f k at depth w a b x y c d t u p q o e g h = h
