-- Where B1 fits, and its right side.
use Rattle.std.proofs.Common.{◌≡◌, ℕ, zero, suc, ◌+◌, ◌<◌, ◌⊎◌, inl, inr, true, false, [], refl, sym, ap, ◌∙◌, arith}
use Rattle.nrca_term.specs.declared.trace.Rule.TheVariants.{B1}
use Rattle.nrca_term.specs.Term.{Term, form_of, parts_of, child_of, count}
use Rattle.nrca_term.specs.Nodes.{bottom_term}
use Rattle.nrca_term.specs.Subst.{is_strict}
use Rattle.nrca_term.specs.Laws.Entering.{child-counted}
use Rattle.nrca_rule_laws.specs.Fitting.{RuleFits, IsRight}
use Rattle.nrca_setrules.proofs.Sides.{right_of}
use Rattle.nrca_setrules.specs.Strictly.{IsStrictBottom}

-- B1 fits where a strict part is Bottom
pub b1_fits : (t : Term) (i : ℕ) → IsStrictBottom i t → RuleFits B1 true t
b1_fits t i h = (bottom_term, [], (i, h.0, h.1, refl, refl))

-- B1 does not fit where no strict part is Bottom
pub b1_unfit : (t : Term) (n : ℕ) → n ≡ count (parts_of t) → ((i : ℕ) → i < n → IsStrictBottom i t → ⊥) → RuleFits B1 false t
b1_unfit t n e none_of = λ r ws x. none_of x.0 (omega (arith, e, child-counted (parts_of t) x.0 bottom_term x.2)) (x.1, x.2)

-- Bottom is the right side of B1
pub b1_right : (t : Term) (f : RuleFits B1 true t) → IsRight B1 t bottom_term
b1_right t f = right_of B1 t bottom_term f f.2.3

-- no strict part so far is Bottom, and the next one is not
pub b1_next : (t : Term) (n : ℕ) → ((i : ℕ) → i < n → IsStrictBottom i t → ⊥) → (IsStrictBottom n t → ⊥) →
    (i : ℕ) → i < n + 1 → IsStrictBottom i t → ⊥
b1_next t n old new i l h = at (order i n l)
  where
    order : (i n : ℕ) → i < n + 1 → (i < n) ⊎ (i ≡ n)
    order zero zero l = inr refl
    order zero (suc n) l = inl (omega arith)
    order (suc i) zero l = absurd (omega (arith, l))
    order (suc i) (suc n) l = elim (order i n (omega (arith, l))) [ inl x ↦ inl (omega (arith, x)) | inr x ↦ inr (ap suc x) ]

    at : (i < n) ⊎ (i ≡ n) → ⊥
    at (inl x) = old i x h
    at (inr x) = new (ap (is_strict (form_of t)) (sym x) ∙ h.0, ap (child_of (parts_of t)) (sym x) ∙ h.1)
