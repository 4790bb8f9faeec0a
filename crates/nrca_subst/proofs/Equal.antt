-- Two nodes of one form are one term exactly where their parts are.
use Rattle.std.proofs.Common.{◌≡◌, ℕ, zero, suc, ◌+◌, ◌-◌, ◌<◌, ◌≤◌, ◌^◌, min, true, false, Some, None, refl, sym, ap, ◌∙◌, subst, arith}
use Rattle.std.proofs.lemmas.Option.{same_Some}
use Rattle.nrca_term.specs.Term.{Term, Parts, node, none, part, Form, form_of, parts_of, child_of, count, binders_of, variable_of, WellFormed, PartsWellFormed}
use Rattle.nrca_term.specs.Subst.{shift_form, shift_term, shift_parts}
use Rattle.nrca_subst.specs.Depth.{IsDepth, TellsShifted}
use Rattle.nrca_subst.proofs.Deeper.{is_depth-deeper}
use Rattle.nrca_term.specs.Laws.Entering.{child-counted}
use Rattle.nrca_subst.specs.Laws.Walking.{shift_form-other}

-- the first parts of u are those of t, shifted
abbrev pub FirstShifted : ℕ → ℕ → Term → Term → ℕ → Type 0
FirstShifted depth by t u i = (n : ℕ) → IsDepth depth n → (j : ℕ) (x y : Term) → j < i → child_of (parts_of t) j ≡ Some x → child_of (parts_of u) j ≡ Some y →
    y ≡ shift_term (n + binders_of (parts_of t) j) by x

-- parts of one form that are equal one by one
equal-parts : (f : Form) (i m by : ℕ) (ps qs : Parts) → PartsWellFormed f i ps → PartsWellFormed f i qs → count ps ≡ count qs →
    ((j : ℕ) (x y : Term) → child_of ps j ≡ Some x → child_of qs j ≡ Some y → y ≡ shift_term (m + binders_of ps j) by x) → qs ≡ shift_parts m by ps
equal-parts f i m by none none w v c h = refl
equal-parts f i m by none (part k t qs) w v c h = absurd (omega (arith, c))
equal-parts f i m by (part k t ps) none w v c h = absurd (omega (arith, c))
equal-parts f i m by (part k t ps) (part l u qs) w v c h =
    ap (λ n. part n u qs) (v.0 ∙ sym w.0)
    ∙ ap (λ x. part k x qs) (h 0 t u refl refl)
    ∙ ap (part k (shift_term (m + k) by t)) (equal-parts f (suc i) m by ps qs w.2 v.2 (omega (arith, c)) (λ j x y e g. h (suc j) x y e g))

pub tells-all : (depth by i : ℕ) (t u : Term) → WellFormed t → WellFormed u → variable_of (form_of t) ≡ None → form_of t ≡ form_of u → count (parts_of t) ≡ count (parts_of u) → count (parts_of t) ≤ i →
    FirstShifted depth by t u i → TellsShifted depth by t u true
tells-all depth by i (node f ps) (node g qs) w v o e c l h n d = (
  (λ x. ap (λ k. node k qs) (sym e ∙ shift_form-other n by f o)
      ∙ ap (node (shift_form n by f)) (equal-parts f 0 n by ps qs w.1 (subst (λ k. PartsWellFormed k 0 qs) (sym e) v.1) c (λ j x y p q. h n d j x y (omega (arith, child-counted ps j x p, l)) p q))),
  (λ x. refl),
)

count-shift : (n by : ℕ) (ps : Parts) → count (shift_parts n by ps) ≡ count ps
count-shift n by none = refl
count-shift n by (part k t ps) = ap suc (count-shift n by ps)

child-shift : (n by : ℕ) (ps : Parts) (i : ℕ) (x : Term) → child_of ps i ≡ Some x → child_of (shift_parts n by ps) i ≡ Some (shift_term (n + binders_of ps i) by x)
child-shift n by none i x e = cc
child-shift n by (part k t ps) zero x e = let z : t ≡ x = cc in ap (λ y. Some (shift_term (n + k) by y)) z
child-shift n by (part k t ps) (suc i) x e = child-shift n by ps i x e

not_true : false ≡ true → ⊥
not_true e = cc

pub tells-count : (depth by : ℕ) (t u : Term) → (count (parts_of t) ≡ count (parts_of u) → ⊥) → TellsShifted depth by t u false
tells-count depth by (node f ps) u h n d = ((λ x. absurd (not_true x)), (λ e. absurd (h (sym (ap (λ x. count (parts_of x)) e ∙ count-shift n by ps)))))

pub tells-part : (depth by k i : ℕ) (t u x y : Term) → child_of (parts_of t) i ≡ Some x → child_of (parts_of u) i ≡ Some y → k ≡ binders_of (parts_of t) i →
    TellsShifted (min (depth + k) (2 ^ 128 - 1)) by x y false → TellsShifted depth by t u false
tells-part depth by k i (node f ps) u x y e g b r n d = (
  (λ z. absurd (not_true z)),
  (λ q. (r (n + k) (is_depth-deeper depth k n d)).1
      (same_Some y (shift_term (n + k) by x) (sym g ∙ ap (λ z. child_of (parts_of z) i) q ∙ child-shift n by ps i x e ∙ ap (λ m. Some (shift_term (n + m) by x)) (sym b)))),
)
