-- The variables of the first parts of a node.
use Rattle.std.proofs.Common.{◌≡◌, ℕ, zero, suc, ◌+◌, max, Some, None, refl, ap, arith, add-one}
use Rattle.nrca_term.specs.Term.{Term, Parts, Form, node, none, part, form_of, parts_of, child_of, count, variable_of}
use Rattle.nrca_term.specs.Subst.{top_var, parts_top}

-- the greatest variable of the first parts
unfoldable pub first_top : ℕ → Parts → ℕ
first_top zero ps = 0
first_top (suc i) none = 0
first_top (suc i) (part k t ps) = max (top_var t) (first_top i ps)

pub first_top-none : (ps : Parts) → 0 ≡ first_top 0 ps
unfolding first_top
first_top-none ps = refl

first_top-suc : (i : ℕ) (ps : Parts) (u : Term) → child_of ps i ≡ Some u → first_top (suc i) ps ≡ max (first_top i ps) (top_var u)
unfolding first_top
first_top-suc i none u e = cc
first_top-suc zero (part k t ps) u e = let z : t ≡ u = cc in omega (arith, ap top_var z)
first_top-suc (suc i) (part k t ps) u e = omega (arith, first_top-suc i ps u e)

-- one part more
pub first_top-next : (i : ℕ) (ps : Parts) (u : Term) (g m : ℕ) → child_of ps i ≡ Some u → g ≡ first_top i ps → m ≡ top_var u → max g m ≡ first_top (i + 1) ps
first_top-next i ps u g m e h k = omega (arith, h, k, first_top-suc i ps u e, ap (λ j. first_top j ps) (add-one i))

first_top-all : (ps : Parts) → first_top (count ps) ps ≡ parts_top ps
unfolding first_top
first_top-all none = refl
first_top-all (part k t ps) = ap (max (top_var t)) (first_top-all ps)

top-other : (t : Term) → variable_of (form_of t) ≡ None → top_var t ≡ parts_top (parts_of t)
top-other (node (Form.var i) ps) e = cc
top-other (node (Form.global m) ps) e = omega arith
top-other (node Form.bind ps) e = omega arith
top-other (node Form.choose ps) e = omega arith
top-other (node Form.default ps) e = omega arith
top-other (node Form.big_union ps) e = omega arith
top-other (node Form.sum ps) e = omega arith
top-other (node (Form.tab rank) ps) e = omega arith
top-other (node (Form.strict s) ps) e = omega arith

-- all parts
pub first_top-whole : (i : ℕ) (t : Term) (g : ℕ) → variable_of (form_of t) ≡ None → i ≡ count (parts_of t) → g ≡ first_top i (parts_of t) → g ≡ top_var t
first_top-whole i t g e c h = omega (arith, h, ap (λ j. first_top j (parts_of t)) c, first_top-all (parts_of t), top-other t e)
