-- Whether a term asks for the dimensions of a variable, part by part.
use Rattle.std.proofs.Common.{◌≡◌, ℕ, zero, suc, ◌+◌, ◌<◌, ◌≤◌, true, false, if◌then◌else◌, Some, refl, ap, ◌∙◌, arith}
use Rattle.aql_value.specs.Strict.{Strict}
use Rattle.nrca_term.specs.Term.{Term, Parts, node, none, part, Form, parts_of, child_of, binders_of, count}
use Rattle.nrca_term.specs.Rules.{is_dim_of, dims_of_var, parts_dims_of_var}
use Rattle.nrca_term.specs.Laws.Entering.{child-counted}
use Rattle.nrca_rule_laws.specs.Laws.Firms.{part-there}
use Rattle.nrca_arrayrules.proofs.Sides.{false-true}
use Rattle.nrca_arrayrules.specs.Replacing.{AsksUnder, AsksInPart, IsNoDim}

-- a node that is no dimensions of a variable is not those of one
pub is_dim_of-no : (n : ℕ) (f : Form) (ps : Parts) → IsNoDim (node f ps) → is_dim_of n f ps ≡ false
is_dim_of-no n (Form.strict (Strict.dim k)) (part zero (node (Form.var i) none) none) h = absurd (h k i refl)
is_dim_of-no n _ _ h = refl

-- then the parts alone ask
dims-other : (n : ℕ) (t : Term) → IsNoDim t → dims_of_var n t ≡ parts_dims_of_var n (parts_of t)
dims-other n (node f ps) h = ap (λ b. (if b then 1 else 0) + parts_dims_of_var n ps) (is_dim_of-no n f ps h) ∙ (let z : 0 + parts_dims_of_var n ps ≡ parts_dims_of_var n ps = omega arith in z)

-- parts of which none asks
parts_dims-none : (n : ℕ) (ps : Parts) → ((j : ℕ) (u : Term) → child_of ps j ≡ Some u → dims_of_var (n + binders_of ps j) u ≡ 0) → parts_dims_of_var n ps ≡ 0
parts_dims-none n none h = refl
parts_dims-none n (part k t ps) h = omega (arith, h 0 t refl, parts_dims-none n ps (λ j u e. h (suc j) u e))

-- a part that asks
parts_dims-some : (n : ℕ) (ps : Parts) (j : ℕ) (u : Term) → child_of ps j ≡ Some u → dims_of_var (n + binders_of ps j) u ≤ parts_dims_of_var n ps
parts_dims-some n none j u e = cc
parts_dims-some n (part k t ps) zero u e = let z : t ≡ u = cc in omega (arith, ap (dims_of_var (n + k)) z)
parts_dims-some n (part k t ps) (suc j) u e = omega (arith, parts_dims-some n ps j u e)

-- a node of which no part asks
pub asks-none : (at m : ℕ) (t : Term) → IsNoDim t → m ≡ count (parts_of t) → ((j : ℕ) → j < m → AsksInPart at j t false) → AsksUnder at t false
asks-none at m t h e none_of n d =
    let z : dims_of_var n t ≡ 0 = dims-other n t h ∙ parts_dims-none n (parts_of t) (λ j u c. zero-of (dims_of_var (n + binders_of (parts_of t) j) u) (λ q. false-true ((none_of j (omega (arith, e, child-counted (parts_of t) j u c)) n d u c).1 q))) in
    ((λ q. absurd (false-true q)), (λ q. absurd (omega (arith, z, q))))
  where
    zero-of : (x : ℕ) → (1 ≤ x → ⊥) → x ≡ 0
    zero-of zero f = refl
    zero-of (suc x) f = absurd (f (omega arith))

-- a node of which a part asks
pub asks-some : (at i : ℕ) (t : Term) → IsNoDim t → i < count (parts_of t) → AsksInPart at i t true → AsksUnder at t true
asks-some at i t h l s n d =
    let c = part-there (parts_of t) i l in
    let z = (s n d c.0 c.1).0 refl in
    ((λ q. omega (arith, z, dims-other n t h, parts_dims-some n (parts_of t) i c.0 c.1)), (λ q. refl))
