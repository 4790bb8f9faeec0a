-- The right side of each move, from what it is made of, and the room for its variables.
use Rattle.std.proofs.Common.{◌≡◌, ℕ, zero, suc, ◌+◌, ◌<◌, ◌≤◌, [], ◌∷◌, Some, refl, sym, ap, subst, ◌∙◌, arith}
use Rattle.nrca_term.specs.Term.{Term, Parts, node, none, part, parts_of, child_of, set_child, with_part, binders_of, count, parts_weight}
use Rattle.nrca_term.specs.Nodes.{let_term, bottom_term}
use Rattle.nrca_term.specs.Subst.{shift_form, shift_term, shift_parts, top_var, parts_top}
use Rattle.nrca_term.specs.Laws.Measure.{weight_of-child, weight_of-positive}
use Rattle.nrca_term.specs.Laws.Entering.{child-counted}
use Rattle.nrca_term.specs.Laws.Shift.{shift_term-none}
use Rattle.nrca_term.specs.Laws.Exchange.{count-with_part}
use Rattle.nrca_subst.specs.Laws.Walking.{top_var-child}
use Rattle.nrca_motion.specs.declared.moves.MoveRule.TheVariants.{M1, M2, M3}
use Rattle.nrca_motion.specs.declared.fitting.Fit.{Fit}
use Rattle.nrca_motion.specs.Moves.{rotate_term, MoveRedex}
use Rattle.nrca_motion.specs.Outside.{HasRoom}
use Rattle.nrca_motion.specs.Fitting.{FitsAt, IsStrictLet, IsMade}
use Rattle.nrca_motion.specs.Making.{HasLetBelow, IsTestOut, IsLetOut, IsStrictOut}

-- a part has room where its node has
pub room-child : (t : Term) (i : ℕ) (u : Term) → child_of (parts_of t) i ≡ Some u → HasRoom t → HasRoom u
room-child t i u e h =
    let a = top_var-child 0 0 t i u e in
    omega (arith, h, a, ap top_var (shift_term-none (0 + binders_of (parts_of t) i) u), ap top_var (shift_term-none 0 t), weight_of-child t i u e)

-- so has the node without one of its parts
rest-top : (ps : Parts) (i : ℕ) → parts_top (set_child ps i bottom_term) ≤ parts_top ps
rest-top none i = omega arith
rest-top (part k t ps) zero = omega arith
rest-top (part k t ps) (suc i) = omega (arith, rest-top ps i)

rest-weight : (ps : Parts) (i : ℕ) → parts_weight (set_child ps i bottom_term) ≤ parts_weight ps
rest-weight none i = omega arith
rest-weight (part k t ps) zero = omega (arith, weight_of-positive t)
rest-weight (part k t ps) (suc i) = omega (arith, rest-weight ps i)

pub room-rest : (t r b : Term) (i : ℕ) → r ≡ with_part t i b → b ≡ bottom_term → HasRoom t → HasRoom r
room-rest t r b i e k h = subst HasRoom (sym (e ∙ ap (with_part t i) k)) (at t h)
  where
    at : (t : Term) → HasRoom t → HasRoom (with_part t i bottom_term)
    at (node f ps) h = omega (arith, h, rest-top ps i, rest-weight ps i)

-- a shift keeps the number of parts
count-shifted : (ps : Parts) → count (shift_parts 0 1 ps) ≡ count ps
count-shifted none = refl
count-shifted (part k t ps) = ap suc (count-shifted ps)

pub count-shift : (t s : Term) → s ≡ shift_term 0 1 t → count (parts_of s) ≡ count (parts_of t)
count-shift (node f ps) s e = ap (λ x. count (parts_of x)) e ∙ count-shifted ps

-- the part that is replaced after a shift
set-shifted : (ps : Parts) (i : ℕ) (s u : Term) → set_child (shift_parts 0 1 (set_child ps i s)) i u ≡ set_child (shift_parts 0 1 ps) i u
set-shifted none i s u = refl
set-shifted (part k t ps) zero s u = refl
set-shifted (part k t ps) (suc i) s u = ap (part k (shift_term (0 + k) 1 t)) (set-shifted ps i s u)

with-shifted : (t : Term) (i : ℕ) (s u : Term) → with_part (shift_term 0 1 (with_part t i s)) i u ≡ with_part (shift_term 0 1 t) i u
with-shifted (node f ps) i s u = ap (node (shift_form 0 1 f)) (set-shifted ps i s u)

-- there is such a part
pub below-there : (t : Term) (i : ℕ) → HasLetBelow t i → i < count (parts_of t)
below-there t i h = child-counted (parts_of t) i (let_term (shift_term 0 (binders_of (parts_of t) i) h.0) h.1) h.2

pub strict-there : (t : Term) (i : ℕ) → IsStrictLet t i → i < count (parts_of t)
strict-there t i h = child-counted (parts_of t) i (let_term h.2.0 h.2.1) h.2.2

pub rest-there : (t r b : Term) (i : ℕ) → r ≡ with_part t i b → i < count (parts_of t) → i < count (parts_of r)
rest-there t r b i e l = omega (arith, l, count-with_part t i b, ap (λ x. count (parts_of x)) e)

-- room for the two parts of a let that is a part
pub bound-room : (t p a b : Term) (i : ℕ) → Some p ≡ child_of (parts_of t) i → p ≡ let_term a b → HasRoom t → HasRoom a
bound-room t p a b i e k h = room-child p 0 a (ap (λ x. child_of (parts_of x) 0) k) (room-child t i p (sym e) h)

pub body-room : (t p a b : Term) (i : ℕ) → Some p ≡ child_of (parts_of t) i → p ≡ let_term a b → HasRoom t → HasRoom b
body-room t p a b i e k h = room-child p 1 b (ap (λ x. child_of (parts_of x) 1) k) (room-child t i p (sym e) h)

-- the let of a strict part goes out
pub strict-made : (t rest p r a b s : Term) (i : ℕ) → p ≡ let_term a b → Some p ≡ child_of (parts_of t) i → rest ≡ with_part t i s → r ≡ let_term a (with_part (shift_term 0 1 rest) i b) → IsStrictOut t i r
strict-made t rest p r a b s i k e g h =
    (a, b, sym e ∙ ap Some k, h ∙ ap (λ x. let_term a (with_part (shift_term 0 1 x) i b)) g ∙ ap (let_term a) (with-shifted t i s b))

-- the let of a body goes out
pub let-made : (t rest p r a b s o w : Term) (i n : ℕ) → p ≡ let_term a b → Some p ≡ child_of (parts_of t) i → rest ≡ with_part t i s → n ≡ binders_of (parts_of t) i → a ≡ shift_term 0 n o → w ≡ rotate_term n b →
    r ≡ let_term o (with_part (shift_term 0 1 rest) i w) → IsLetOut t i r
let-made t rest p r a b s o w i n k e g m q v h = (
  o,
  b,
  sym e ∙ ap Some k ∙ ap (λ x. Some (let_term x b)) (q ∙ ap (λ j. shift_term 0 j o) m),
  h ∙ ap (λ x. let_term o (with_part (shift_term 0 1 x) i w)) g ∙ ap (let_term o) (with-shifted t i s w) ∙ ap (λ x. let_term o (with_part (shift_term 0 1 t) i x)) (v ∙ ap (λ j. rotate_term j b) m),
)

-- which are the right sides of the rules
pub made-test : (f : Fit) (t r : Term) → f.rule ≡ M1 → IsTestOut t r → IsMade f t r
made-test f t r e h = (h.2 ∷ h.3 ∷ [], subst (λ R. MoveRedex R t r (h.2 ∷ h.3 ∷ [])) (sym e) (h.0, h.1, h.2, h.3, h.4, h.5, h.6, h.7, refl))

pub made-loop : (f : Fit) (t r : Term) → f.rule ≡ M2 → FitsAt f.rule f.part t → IsLetOut t f.part r → IsMade f t r
made-loop f t r e k h =
    let l = subst (λ R. FitsAt R f.part t) e k in
    (h.0 ∷ [], subst (λ R. MoveRedex R t r (h.0 ∷ [])) (sym e) (f.part, h.0, h.1, l.0, h.2, h.3, refl))

pub made-tab : (f : Fit) (t r : Term) → f.rule ≡ M3 → FitsAt f.rule f.part t → IsLetOut t f.part r → IsMade f t r
made-tab f t r e k h =
    let l = subst (λ R. FitsAt R f.part t) e k in
    (h.0 ∷ [], subst (λ R. MoveRedex R t r (h.0 ∷ [])) (sym e) (f.part, h.0, h.1, l.0, h.2, h.3, refl))
