-- The strict uses of a variable in the first parts of a node.
use Rattle.std.proofs.Common.{◌≡◌, ℕ, zero, suc, ◌+◌, ◌-◌, ◌^◌, min, Bool, true, false, Some, None, refl, sym, ap, ◌∙◌, arith, add-one, if◌then◌else◌}
use Rattle.nrca_term.specs.Term.{Term, Parts, node, none, part, Form, form_of, parts_of, child_of, count, binders_of, variable_of}
use Rattle.nrca_term.specs.Subst.{is_strict, strict_uses, parts_strict_uses}
use Rattle.nrca_subst.specs.Depth.{IsDepth}
use Rattle.nrca_subst.specs.Strictly.{CountsStrict, CountsPart, strict_in}
use Rattle.nrca_subst.proofs.Deeper.{is_depth-deeper}

-- the strict uses of variable n in the first i parts of a node, part j being the first of them
unfoldable pub first_strict : ℕ → Form → ℕ → ℕ → Parts → ℕ
first_strict n f j zero ps = 0
first_strict n f j (suc i) none = 0
first_strict n f j (suc i) (part k t ps) = (if is_strict f j then strict_uses (n + k) t else 0) + first_strict n f (suc j) i ps

-- none in no parts
pub first_strict-none : (n : ℕ) (f : Form) (j : ℕ) (ps : Parts) → first_strict n f j 0 ps ≡ 0
unfolding first_strict
first_strict-none n f j ps = refl

-- none in a node without parts
in_none : (n : ℕ) (b : Bool) (i : ℕ) → strict_in n b none i ≡ 0
in_none n true i = refl
in_none n false i = refl

-- those in the first part
in_zero : (n k : ℕ) (b : Bool) (t : Term) (ps : Parts) → strict_in n b (part k t ps) 0 ≡ (if b then strict_uses (n + k) t else 0)
in_zero n k true t ps = refl
in_zero n k false t ps = refl

-- those in the parts behind it
in_suc : (n k i : ℕ) (b : Bool) (t : Term) (ps : Parts) → strict_in n b (part k t ps) (suc i) ≡ strict_in n b ps i
in_suc n k i true t ps = refl
in_suc n k i false t ps = refl

-- one part more
first_strict-suc : (n : ℕ) (f : Form) (j i m : ℕ) (ps : Parts) → m ≡ j + i → first_strict n f j (suc i) ps ≡ first_strict n f j i ps + strict_in n (is_strict f m) ps i
unfolding first_strict
first_strict-suc n f j zero m none e = omega (arith, in_none n (is_strict f m) 0)
first_strict-suc n f j (suc i) m none e = omega (arith, in_none n (is_strict f m) (suc i))
first_strict-suc n f j zero m (part k t ps) e =
    let z : m ≡ j = omega (arith, e) in
    omega (arith, in_zero n k (is_strict f m) t ps, ap (λ x. if is_strict f x then strict_uses (n + k) t else 0) z)
first_strict-suc n f j (suc i) m (part k t ps) e =
    let z : m ≡ suc j + i = omega (arith, e) in
    omega (arith, first_strict-suc n f (suc j) i m ps z, in_suc n k i (is_strict f m) t ps)

-- one part more, counted from the first
pub first_strict-next : (n : ℕ) (f : Form) (i : ℕ) (ps : Parts) → first_strict n f 0 (i + 1) ps ≡ first_strict n f 0 i ps + strict_in n (is_strict f i) ps i
first_strict-next n f i ps = ap (λ j. first_strict n f 0 j ps) (add-one i) ∙ first_strict-suc n f 0 i i ps (omega arith)

-- all parts
first_strict-all : (n : ℕ) (f : Form) (j : ℕ) (ps : Parts) → first_strict n f j (count ps) ps ≡ parts_strict_uses n f j ps
unfolding first_strict
first_strict-all n f j none = refl
first_strict-all n f j (part k t ps) = ap (λ m. (if is_strict f j then strict_uses (n + k) t else 0) + m) (first_strict-all n f (suc j) ps)

-- the strict uses in a node that is no variable are those in its parts
strict-other : (n : ℕ) (t : Term) → variable_of (form_of t) ≡ None → strict_uses n t ≡ parts_strict_uses n (form_of t) 0 (parts_of t)
strict-other n (node (Form.var i) ps) e = cc
strict-other n (node (Form.global m) ps) e = omega arith
strict-other n (node Form.bind ps) e = omega arith
strict-other n (node Form.choose ps) e = omega arith
strict-other n (node Form.default ps) e = omega arith
strict-other n (node Form.big_union ps) e = omega arith
strict-other n (node Form.sum ps) e = omega arith
strict-other n (node (Form.tab rank) ps) e = omega arith
strict-other n (node (Form.strict s) ps) e = omega arith

-- the count after all parts
pub strict-counted : (n i : ℕ) (t : Term) → variable_of (form_of t) ≡ None → i ≡ count (parts_of t) → first_strict n (form_of t) 0 i (parts_of t) ≡ strict_uses n t
strict-counted n i t e c = ap (λ j. first_strict n (form_of t) 0 j (parts_of t)) c ∙ first_strict-all n (form_of t) 0 (parts_of t) ∙ sym (strict-other n t e)

-- no use counts in a part that is not strict
pub part-lazy : (at i : ℕ) (t : Term) (b : Bool) → b ≡ is_strict (form_of t) i → b ≡ false → CountsPart at t i 0
part-lazy at i t b e f n d = ap (λ x. min (strict_in n x (parts_of t) i) (2 ^ 64 - 1)) (sym f ∙ e)

-- the strict uses in a part
part-is : (n : ℕ) (ps : Parts) (i : ℕ) (u : Term) → child_of ps i ≡ Some u → strict_in n true ps i ≡ strict_uses (n + binders_of ps i) u
part-is n none i u e = cc
part-is n (part k t ps) zero u e = let z : t ≡ u = cc in ap (strict_uses (n + k)) z
part-is n (part k t ps) (suc i) u e = part-is n ps i u e

-- the count of a strict part
pub part-strict : (at k i more : ℕ) (t u : Term) (b : Bool) → b ≡ is_strict (form_of t) i → b ≡ true → child_of (parts_of t) i ≡ Some u → k ≡ binders_of (parts_of t) i → CountsStrict (min (at + k) (2 ^ 128 - 1)) u more → CountsPart at t i more
part-strict at k i more t u b e f g h l n d =
    l (n + k) (is_depth-deeper at k n d) ∙ ap (λ m. min (strict_uses (n + m) u) (2 ^ 64 - 1)) h
    ∙ ap (λ m. min m (2 ^ 64 - 1)) (sym (part-is n (parts_of t) i u g)) ∙ ap (λ x. min (strict_in n x (parts_of t) i) (2 ^ 64 - 1)) (sym f ∙ e)

-- the count of one part more
pub part-added : (at n i total more : ℕ) (t : Term) → IsDepth at n → CountsPart at t i more → total ≡ min (first_strict n (form_of t) 0 i (parts_of t)) (2 ^ 64 - 1) → min (total + more) (2 ^ 64 - 1) ≡ min (first_strict n (form_of t) 0 (i + 1) (parts_of t)) (2 ^ 64 - 1)
part-added at n i total more t d p s = omega (arith, p n d, s, first_strict-next n (form_of t) i (parts_of t))
