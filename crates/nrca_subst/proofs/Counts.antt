-- The uses of a variable in the first parts of a node.
use Rattle.std.proofs.Common.{◌≡◌, ℕ, zero, suc, ◌+◌, ◌-◌, ◌^◌, min, Some, None, refl, sym, ap, ◌∙◌, arith, add-one}
use Rattle.nrca_term.specs.Term.{Term, Parts, node, none, part, Form, form_of, parts_of, child_of, count, binders_of, variable_of}
use Rattle.nrca_term.specs.Subst.{uses_of, parts_uses}
use Rattle.nrca_subst.specs.Depth.{IsDepth, CountsUses}
use Rattle.nrca_subst.proofs.Deeper.{is_depth-deeper}

-- the uses of variable n in the first parts
unfoldable pub first_uses : ℕ → ℕ → Parts → ℕ
first_uses n zero ps = 0
first_uses n (suc i) none = 0
first_uses n (suc i) (part k t ps) = uses_of (n + k) t + first_uses n i ps

pub first_uses-none : (n : ℕ) (ps : Parts) → first_uses n 0 ps ≡ 0
unfolding first_uses
first_uses-none n ps = refl

first_uses-suc : (n i : ℕ) (ps : Parts) (u : Term) → child_of ps i ≡ Some u → first_uses n (suc i) ps ≡ first_uses n i ps + uses_of (n + binders_of ps i) u
unfolding first_uses
first_uses-suc n i none u e = cc
first_uses-suc n zero (part k t ps) u e = let z : t ≡ u = cc in omega (arith, ap (uses_of (n + k)) z)
first_uses-suc n (suc i) (part k t ps) u e = omega (arith, first_uses-suc n i ps u e)

pub first_uses-next : (n i : ℕ) (ps : Parts) (u : Term) → child_of ps i ≡ Some u → first_uses n (i + 1) ps ≡ first_uses n i ps + uses_of (n + binders_of ps i) u
first_uses-next n i ps u e = ap (λ j. first_uses n j ps) (add-one i) ∙ first_uses-suc n i ps u e

first_uses-all : (n : ℕ) (ps : Parts) → first_uses n (count ps) ps ≡ parts_uses n ps
unfolding first_uses
first_uses-all n none = refl
first_uses-all n (part k t ps) = ap (λ m. uses_of (n + k) t + m) (first_uses-all n ps)

uses-other : (n : ℕ) (t : Term) → variable_of (form_of t) ≡ None → uses_of n t ≡ parts_uses n (parts_of t)
uses-other n (node (Form.var i) ps) e = cc
uses-other n (node (Form.global m) ps) e = omega arith
uses-other n (node Form.bind ps) e = omega arith
uses-other n (node Form.choose ps) e = omega arith
uses-other n (node Form.default ps) e = omega arith
uses-other n (node Form.big_union ps) e = omega arith
uses-other n (node Form.sum ps) e = omega arith
uses-other n (node (Form.tab rank) ps) e = omega arith
uses-other n (node (Form.strict s) ps) e = omega arith

pub uses-counted : (n i : ℕ) (t : Term) → variable_of (form_of t) ≡ None → i ≡ count (parts_of t) → first_uses n i (parts_of t) ≡ uses_of n t
uses-counted n i t e c = ap (λ j. first_uses n j (parts_of t)) c ∙ first_uses-all n (parts_of t) ∙ sym (uses-other n t e)

-- one part more
pub counts-part : (at k n total more : ℕ) (i : ℕ) (t u : Term) → child_of (parts_of t) i ≡ Some u → k ≡ binders_of (parts_of t) i → CountsUses (min (at + k) (2 ^ 128 - 1)) u more → IsDepth at n →
    total ≡ min (first_uses n i (parts_of t)) (2 ^ 64 - 1) → min (total + more) (2 ^ 64 - 1) ≡ min (first_uses n (i + 1) (parts_of t)) (2 ^ 64 - 1)
counts-part at k n total more i t u e b h d s =
    let m = h (n + k) (is_depth-deeper at k n d) in
    omega (arith, m, s, first_uses-next n i (parts_of t) u e, ap (λ j. uses_of (n + j) u) b)
