-- The uses of a variable after the part at a place is replaced, by those in the old part and in the new.
use Rattle.std.proofs.Common.{◌≡◌, ℕ, zero, suc, ◌+◌, ◌≤◌, Bool, true, false, List, [], ◌∷◌, Some, sym, ap, ◌∙◌, arith, if◌then◌else◌}
use Rattle.nrca_term.specs.Term.{Term, Parts, node, none, part, Form, parts_of, child_of, binders_of}
use Rattle.nrca_term.specs.Places.{place_of, put_at, on_child}
use Rattle.nrca_term.specs.Laws.Measure.{through}
use Rattle.nrca_term.specs.Facts.{context_below}
use Rattle.nrca_term.specs.Subst.{form_uses, uses_of, parts_uses, is_strict, strict_uses, parts_strict_uses}

mutual
  -- strict uses are uses
  pub strict_uses-le : (at : ℕ) (t : Term) → strict_uses at t ≤ uses_of at t
  strict_uses-le at (node f ps) = omega (arith, parts_strict-le at f 0 ps)

  parts_strict-le : (at : ℕ) (f : Form) (i : ℕ) (ps : Parts) → parts_strict_uses at f i ps ≤ parts_uses at ps
  parts_strict-le at f i none = omega arith
  parts_strict-le at f i (part k t ps) = counted (is_strict f i) (strict_uses (at + k) t) (uses_of (at + k) t) (parts_strict_uses at f (suc i) ps) (parts_uses at ps) (strict_uses-le (at + k) t) (parts_strict-le at f (suc i) ps)
    where
      counted : (b : Bool) (m n p q : ℕ) → m ≤ n → p ≤ q → (if b then m else 0) + p ≤ n + q
      counted true m n p q h l = omega (arith, h, l)
      counted false m n p q h l = omega (arith, h, l)

-- a variable's number at a place, `at` being its number at the root
abbrev pub under_path : ℕ → Term → List ℕ → ℕ
under_path at t [] = at
under_path at t (i ∷ path) = context_below at (child_of (parts_of t) i) (λ u. under_path (at + binders_of (parts_of t) i) u path)

-- uses when one part is changed
uses-on_child : (at : ℕ) (ps : Parts) (i : ℕ) (r : Term) (g : Term → Term) (a b : ℕ) → child_of ps i ≡ Some r → uses_of (at + binders_of ps i) (g r) + a ≡ uses_of (at + binders_of ps i) r + b → parts_uses at (on_child ps i g) + a ≡ parts_uses at ps + b
uses-on_child at none i r g a b e h = cc
uses-on_child at (part k t ps) zero r g a b e h = let s : t ≡ r = cc in omega (arith, h, ap (uses_of (at + k)) s, ap (λ x. uses_of (at + k) (g x)) s)
uses-on_child at (part k t ps) (suc i) r g a b e h = omega (arith, uses-on_child at ps i r g a b e h)

-- uses after and in the old part are uses before and in the new part
pub uses-put_at : (path : List ℕ) (at : ℕ) (t s u : Term) → place_of t path ≡ Some s → uses_of at (put_at t path u) + uses_of (under_path at t path) s ≡ uses_of at t + uses_of (under_path at t path) u
uses-put_at [] at t s u e = let z : t ≡ s = cc in omega (arith, ap (uses_of at) z)
uses-put_at (i ∷ path) at (node f ps) s u e =
    let r = through ps i path s e in
    let n : under_path at (node f ps) (i ∷ path) ≡ under_path (at + binders_of ps i) r.0 path = ap (λ o. context_below at o (λ u. under_path (at + binders_of ps i) u path)) r.1 in
    let h = uses-on_child at ps i r.0 (λ q. put_at q path u) (uses_of (under_path (at + binders_of ps i) r.0 path) s) (uses_of (under_path (at + binders_of ps i) r.0 path) u) r.1 (uses-put_at path (at + binders_of ps i) r.0 s u r.2) in
    omega (arith, h, ap (λ m. uses_of m s) n, ap (λ m. uses_of m u) n)

-- strict uses when one part is changed
strict-on_child : (at : ℕ) (f : Form) (j : ℕ) (ps : Parts) (i : ℕ) (r : Term) (g : Term → Term) → child_of ps i ≡ Some r → strict_uses (at + binders_of ps i) (g r) ≡ strict_uses (at + binders_of ps i) r → parts_strict_uses at f j (on_child ps i g) ≡ parts_strict_uses at f j ps
strict-on_child at f j none i r g e h = cc
strict-on_child at f j (part k t ps) zero r g e h =
    let s : t ≡ r = cc in
    let z : strict_uses (at + k) (g t) ≡ strict_uses (at + k) t = ap (λ x. strict_uses (at + k) (g x)) s ∙ h ∙ ap (strict_uses (at + k)) (sym s) in
    ap (λ n. (if is_strict f j then n else 0) + parts_strict_uses at f (suc j) ps) z
strict-on_child at f j (part k t ps) (suc i) r g e h = ap (λ n. (if is_strict f j then strict_uses (at + k) t else 0) + n) (strict-on_child at f (suc j) ps i r g e h)

-- strict uses stay where the new part has as many as the old
pub strict_uses-put_at : (path : List ℕ) (at : ℕ) (t s u : Term) → place_of t path ≡ Some s → strict_uses (under_path at t path) u ≡ strict_uses (under_path at t path) s → strict_uses at (put_at t path u) ≡ strict_uses at t
strict_uses-put_at [] at t s u e h = let z : t ≡ s = cc in h ∙ ap (strict_uses at) (sym z)
strict_uses-put_at (i ∷ path) at (node f ps) s u e h =
    let r = through ps i path s e in
    let n : under_path at (node f ps) (i ∷ path) ≡ under_path (at + binders_of ps i) r.0 path = ap (λ o. context_below at o (λ u. under_path (at + binders_of ps i) u path)) r.1 in
    ap (λ m. form_uses at f + m)
    (strict-on_child at f 0 ps i r.0 (λ q. put_at q path u) r.1 (strict_uses-put_at path (at + binders_of ps i) r.0 s u r.2 (ap (λ m. strict_uses m u) (sym n) ∙ h ∙ ap (λ m. strict_uses m s) n)))
