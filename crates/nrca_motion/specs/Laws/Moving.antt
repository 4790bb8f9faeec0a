-- A move in a part is one of the node.
use Rattle.std.proofs.Common.{◌≡◌, ℕ, zero, suc, ◌+◌, ◌<◌, ◌≤◌, List, [], ◌∷◌, length, drop, get_or, Option, Some, None, refl, sym, ap, subst, ◌∙◌, arith, add-one, drop-cons}
use Rattle.std.proofs.lemmas.Option.{same_Some}
use Rattle.aql_value.specs.Partial.{◌>>=◌}
use Rattle.nrca_term.specs.Term.{Term, Parts, node, none, part, parts_of, child_of, set_child, with_part}
use Rattle.nrca_term.specs.Places.{place_of, put_at, on_child}
use Rattle.nrca_motion.specs.declared.fitting.Fit.{Fit}
use Rattle.nrca_motion.specs.Outside.{HasRoom}
use Rattle.nrca_motion.specs.Fitting.{FitsAt, IsMade}
use Rattle.nrca_motion.specs.Moving.{MayMoveAt, IsMovedAt}

-- a path from its number n on
pub path-next : (path : List ℕ) (n : ℕ) → n < length path → drop n path ≡ get_or path n 0 ∷ drop (n + 1) path
path-next path n l = rw (add-one, drop-cons path n 0)

pub path-end : (path : List ℕ) (n : ℕ) → n ≤ length path → length path ≤ n → drop n path ≡ []
path-end path n l m = let z : n ≡ length path = omega (arith, l, m) in ap (λ k. drop k path) z ∙ all path
  where
    all : (path : List ℕ) → drop (length path) path ≡ []
    all [] = refl
    all (x ∷ path) = all path

-- a part taken out and another one put in
put-child : (ps : Parts) (i : ℕ) (s b u : Term) (g : Term → Term) → child_of ps i ≡ Some s → u ≡ g s → set_child (set_child ps i b) i u ≡ on_child ps i g
put-child none i s b u g e h = refl
put-child (part k t ps) zero s b u g e h = let z : s ≡ t = cc in ap (λ x. part k x ps) (h ∙ ap g z)
put-child (part k t ps) (suc i) s b u g e h = ap (part k t) (put-child ps i s b u g e h)

put-back : (t s b u r : Term) (i : ℕ) (p : List ℕ) → child_of (parts_of t) i ≡ Some s → u ≡ put_at s p r → with_part (with_part t i b) i u ≡ put_at t (i ∷ p) r
put-back (node f ps) s b u r i p e h = ap (node f) (put-child ps i s b u (λ x. put_at x p r) e h)

-- what may be moved in a part
pub may-below : (f : Fit) (t s : Term) (i : ℕ) (p : List ℕ) → child_of (parts_of t) i ≡ Some s → MayMoveAt f t (i ∷ p) → MayMoveAt f s p
unfolding MayMoveAt
may-below f t s i p e h = (h.0, sym (ap (λ o. o >>= λ r. place_of r p) e) ∙ h.1, h.2, h.3)

-- and the part is there
pub part-there : (f : Fit) (t : Term) (i : ℕ) (p : List ℕ) → MayMoveAt f t (i ∷ p) → (s : Term) × (child_of (parts_of t) i ≡ Some s)
unfolding MayMoveAt
part-there f t i p h = at (child_of (parts_of t) i) refl (h.1)
  where
    at : (o : Option Term) → child_of (parts_of t) i ≡ o → (o >>= λ r. place_of r p) ≡ Some h.0 → (s : Term) × (child_of (parts_of t) i ≡ Some s)
    at None e k = cc
    at (Some s) e k = (s, e)

pub moved-above : (f : Fit) (t s b u : Term) (i : ℕ) (p : List ℕ) → child_of (parts_of t) i ≡ Some s → IsMovedAt f s p u → IsMovedAt f t (i ∷ p) (with_part (with_part t i b) i u)
unfolding IsMovedAt
moved-above f t s b u i p e h = (h.0, h.1, ap (λ o. o >>= λ r. place_of r p) e ∙ h.2, h.3, put-back t s b u h.1 i p e h.4)

-- at the root
pub may-here : (f : Fit) (t : Term) → MayMoveAt f t [] → FitsAt f.rule f.part t × HasRoom t
unfolding MayMoveAt
may-here f t h = let z : h.0 ≡ t = same_Some h.0 t (sym h.1) in (subst (FitsAt f.rule f.part) z h.2, subst HasRoom z h.3)

pub made-here : (f : Fit) (t r : Term) → IsMade f t r → IsMovedAt f t [] r
unfolding IsMovedAt
made-here f t r h = (t, r, refl, h, refl)

-- the same of what the code has in hand: the part, what is put back, and the term after it
pub moved-in_part : (f : Fit) (t s b u x y : Term) (i : ℕ) (p q : List ℕ) → q ≡ i ∷ p → child_of (parts_of t) i ≡ Some s → x ≡ with_part t i b → y ≡ with_part x i u → IsMovedAt f s p u → IsMovedAt f t q y
moved-in_part f t s b u x y i p q e c h k w =
    subst (IsMovedAt f t q) (sym (k ∙ ap (λ z. with_part z i u) h)) (subst (λ l. IsMovedAt f t l (with_part (with_part t i b) i u)) (sym e) (moved-above f t s b u i p c w))
