-- Variable numbers after a substitution: the conditions of shifting and substituting hold of small terms.
use Rattle.std.proofs.Common.{ℕ, suc, ◌+◌, ◌-◌, ◌≤◌, Bool, true, false, nat_lt, nat_eq, if◌then◌else◌, arith}
use Rattle.nrca_term.specs.Term.{Term, Parts, node, none, part, Form, form_weight, weight_of, parts_weight, WellFormed, PartsWellFormed}
use Rattle.nrca_term.specs.Subst.{shift_term, subst_var, subst_node, subst_term, subst_parts, top_var, parts_top, form_top}
use Rattle.nrca_term.specs.Laws.Shift.{top_var-shift_le}
use Rattle.nrca_term.specs.Laws.TypedForm.{binders-light}

top_var-subst_var : (at : ℕ) (s : Term) (i m : ℕ) → i ≤ m → top_var s ≤ m → top_var (subst_var at s i) ≤ m
top_var-subst_var at s i m l h = go (nat_lt i at) (nat_eq i at)
  where
    go : (a b : Bool) → top_var (if a then node (Form.var i) none else (if b then s else node (Form.var (i - 1)) none)) ≤ m
    go true b = omega (arith, l)
    go false true = h
    go false false = omega (arith, l)

top_var-subst_node : (at : ℕ) (s : Term) (f : Form) (qs : Parts) (m : ℕ) → form_top f ≤ m → top_var s ≤ m → parts_top qs ≤ m → top_var (subst_node at s f qs) ≤ m
top_var-subst_node at s (Form.var i) qs m l h k = top_var-subst_var at s i m l h
top_var-subst_node at s (Form.global n) qs m l h k = omega (arith, k)
top_var-subst_node at s Form.bind qs m l h k = omega (arith, k)
top_var-subst_node at s Form.choose qs m l h k = omega (arith, k)
top_var-subst_node at s Form.default qs m l h k = omega (arith, k)
top_var-subst_node at s Form.big_union qs m l h k = omega (arith, k)
top_var-subst_node at s Form.sum qs m l h k = omega (arith, k)
top_var-subst_node at s (Form.tab rank) qs m l h k = omega (arith, k)
top_var-subst_node at s (Form.strict c) qs m l h k = omega (arith, k)

mutual
  -- no variable number passes those of both terms and the binders on the way, which the weight bounds
  pub top_var-subst_le : (at : ℕ) (s t : Term) (m : ℕ) → WellFormed t → top_var t ≤ m → top_var s + weight_of t ≤ m → top_var (subst_term at s t) ≤ m
  top_var-subst_le at s (node f ps) m w l h =
      top_var-subst_node at s f (subst_parts at s ps) m (omega (arith, l)) (omega (arith, h)) (parts_top-subst_le at s f 0 ps m w.1 (omega (arith, l)) (omega (arith, h)))

  parts_top-subst_le : (at : ℕ) (s : Term) (f : Form) (i : ℕ) (ps : Parts) (m : ℕ) → PartsWellFormed f i ps → parts_top ps ≤ m → top_var s + (form_weight f + parts_weight ps) ≤ m →
      parts_top (subst_parts at s ps) ≤ m
  parts_top-subst_le at s f i none m w l h = omega arith
  parts_top-subst_le at s f i (part k t ps) m w l h =
      omega (
        arith,
        top_var-subst_le (at + k) (shift_term 0 k s) t m w.1 (omega (arith, l)) (omega (arith, h, top_var-shift_le 0 k s, w.0, binders-light f i)),
        parts_top-subst_le at s f (suc i) ps m w.2 (omega (arith, l)) (omega (arith, h)),
      )
