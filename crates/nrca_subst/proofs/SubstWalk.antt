-- What the walk of a substitution makes.
use Rattle.std.proofs.Common.{◌≡◌, ℕ, zero, suc, ◌+◌, ◌≤◌, Some, None, refl, sym, ap, ◌∙◌, arith}
use Rattle.nrca_term.specs.Term.{Term, Parts, Form, node, none, part, form_of, parts_of, count, child_of, binders_of, variable_of}
use Rattle.nrca_term.specs.Subst.{shift_term, subst_node, subst_term, subst_parts, top_var, parts_top}
use Rattle.nrca_term.specs.Laws.Shift.{shift_term-twice}
use Rattle.nrca_subst.specs.Laws.Walking.{first_parts, with_first_parts}

abbrev pub subst_part : ℕ → Term → ℕ → Term → Term
subst_part at w k t = subst_term (at + k) (shift_term 0 k w) t

subst_parts-first : (at : ℕ) (w : Term) (ps : Parts) → first_parts (subst_part at w) (count ps) ps ≡ subst_parts at w ps
unfolding first_parts
subst_parts-first at w none = refl
subst_parts-first at w (part k t ps) = ap (part k (subst_part at w k t)) (subst_parts-first at w ps)

-- a node that is no variable keeps its form
pub subst_node-other : (at : ℕ) (w : Term) (f : Form) (ps : Parts) → variable_of f ≡ None → node f ps ≡ subst_node at w f ps
subst_node-other at w (Form.var i) ps e = cc
subst_node-other at w (Form.global n) ps e = refl
subst_node-other at w Form.bind ps e = refl
subst_node-other at w Form.choose ps e = refl
subst_node-other at w Form.default ps e = refl
subst_node-other at w Form.big_union ps e = refl
subst_node-other at w Form.sum ps e = refl
subst_node-other at w (Form.tab rank) ps e = refl
subst_node-other at w (Form.strict s) ps e = refl

pub with_first_parts-subst : (at : ℕ) (w : Term) (n : ℕ) (t s : Term) → s ≡ with_first_parts (subst_part at w) n t → n ≡ count (parts_of t) → variable_of (form_of t) ≡ None → s ≡ subst_term at w t
unfolding with_first_parts
with_first_parts-subst at w n (node f ps) s e c o =
    e
    ∙ ap (λ m. node f (first_parts (subst_part at w) m ps)) c
    ∙ ap (node f) (subst_parts-first at w ps)
    ∙ subst_node-other at w f (subst_parts at w ps) o

parts_top-subst : (at : ℕ) (w : Term) (ps : Parts) (i : ℕ) (u : Term) → child_of ps i ≡ Some u → top_var (subst_part at w (binders_of ps i) u) ≤ parts_top (subst_parts at w ps)
parts_top-subst at w none i u e = cc
parts_top-subst at w (part k t ps) zero u e = let same : u ≡ t = cc in omega (arith, ap (λ x. top_var (subst_part at w k x)) same)
parts_top-subst at w (part k t ps) (suc i) u e = omega (arith, parts_top-subst at w ps i u e)

pub top_var-subst : (at : ℕ) (w t : Term) (i : ℕ) (u : Term) → variable_of (form_of t) ≡ None → child_of (parts_of t) i ≡ Some u →
    top_var (subst_part at w (binders_of (parts_of t) i) u) ≤ top_var (subst_term at w t)
top_var-subst at w (node f ps) i u o e =
    omega (arith, parts_top-subst at w ps i u e, ap top_var (subst_node-other at w f (subst_parts at w ps) o))

-- the term put in, under the binders of a part
pub subst_part-deeper : (at depth k : ℕ) (w t : Term) → subst_term (at + k) (shift_term 0 (depth + k) w) t ≡ subst_part at (shift_term 0 depth w) k t
subst_part-deeper at depth k w t = ap (λ x. subst_term (at + k) x t) (sym (shift_term-twice 0 depth k w))
