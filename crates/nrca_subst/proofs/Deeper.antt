-- A number of binders that is kept only as far as variable numbers reach.
use Rattle.std.proofs.Common.{◌≡◌, ℕ, ◌+◌, ◌-◌, ◌<◌, ◌^◌, min, Some, None, refl, ap, ◌∙◌, arith, eq-eqb}
use Rattle.std.proofs.lemmas.Bool.{lt-ltb, le-ltb, ne_eqb}
use Rattle.nrca_term.specs.Term.{Term, form_of, parts_of, child_of, binders_of, variable_of}
use Rattle.nrca_term.specs.Nodes.{variable}
use Rattle.nrca_term.specs.Subst.{shift_term, subst_term, top_var}
use Rattle.nrca_subst.specs.Depth.{IsDepth, DepthFits, Substitutes}
use Rattle.nrca_subst.proofs.SubstWalk.{subst_part, subst_part-deeper, top_var-subst}

-- under k binders more
pub is_depth-deeper : (depth k n : ℕ) → IsDepth depth n → IsDepth (min (depth + k) (2 ^ 128 - 1)) (n + k)
is_depth-deeper depth k n h = omega (arith, h)

pub is_depth-start : IsDepth 0 0
is_depth-start = refl

-- the answer for a part, in the words of the walk
pub substitutes-part : (at depth k n : ℕ) (w t u : Term) → Substitutes at (min (depth + k) (2 ^ 128 - 1)) w t u → IsDepth depth n → u ≡ subst_part (at + n) (shift_term 0 n w) k t
substitutes-part at depth k n w t u h d =
    h (n + k) (is_depth-deeper depth k n d)
    ∙ (let e : at + (n + k) ≡ at + n + k = omega arith in ap (λ m. subst_term m (shift_term 0 (n + k) w) t) e)
    ∙ subst_part-deeper (at + n) n k w t

pub fits-part : (at depth k : ℕ) (w t : Term) (i : ℕ) (u : Term) → variable_of (form_of t) ≡ None → child_of (parts_of t) i ≡ Some u → k ≡ binders_of (parts_of t) i → DepthFits at depth w t →
    DepthFits at (min (depth + k) (2 ^ 128 - 1)) w u
fits-part at depth k w t i u o e b h = (
  h.0 + k,
  is_depth-deeper depth k h.0 h.1,
  (let z : at + (h.0 + k) ≡ at + h.0 + k = omega arith in
      omega (
        arith,
        h.2,
        ap (λ m. top_var (subst_term m (shift_term 0 (h.0 + k) w) u)) z,
        ap top_var (subst_part-deeper (at + h.0) h.0 k w u),
        ap (λ m. top_var (subst_part (at + h.0) (shift_term 0 h.0 w) m u)) b,
        top_var-subst (at + h.0) (shift_term 0 h.0 w) t i u o e,
      )),
)

-- a variable below the one that is replaced
pub substitutes-below : (at depth i : ℕ) (w : Term) → i < 2 ^ 64 → at < 2 ^ 64 → i < min (depth + at) (2 ^ 128 - 1) → Substitutes at depth w (variable i) (variable i)
substitutes-below at depth i w l m h n d = let z : i < at + n = omega (arith, d) in rw (lt-ltb i (at + n) z) refl

-- the variable that is replaced
pub substitutes-here : (at depth i : ℕ) (w u : Term) → i < 2 ^ 64 → at < 2 ^ 64 → i ≡ min (depth + at) (2 ^ 128 - 1) → u ≡ shift_term 0 (i - at) w → Substitutes at depth w (variable i) u
substitutes-here at depth i w u l m h e n d =
    let z : i ≡ at + n = omega (arith, d) in
    let y : i - at ≡ n = omega (arith, z) in
    rw (le-ltb i (at + n) (omega (arith, z)), eq-eqb i (at + n) z) (e ∙ ap (λ k. shift_term 0 k w) y)

-- a variable above it
pub substitutes-above : (at depth i : ℕ) (w : Term) → i < 2 ^ 64 → at < 2 ^ 64 → min (depth + at) (2 ^ 128 - 1) < i → Substitutes at depth w (variable i) (variable (i - 1))
substitutes-above at depth i w l m h n d =
    let z : at + n < i = omega (arith, d) in
    rw (le-ltb i (at + n) (omega (arith, z)), ne_eqb i (at + n) (λ e. omega (arith, e, z))) refl

-- where the variable is replaced, the term put in fits under its binders
pub fits-here : (at depth i : ℕ) (w : Term) → i < 2 ^ 64 → at < 2 ^ 64 → i ≡ min (depth + at) (2 ^ 128 - 1) → DepthFits at depth w (variable i) → top_var (shift_term 0 (i - at) w) < 2 ^ 64
fits-here at depth i w l m h f =
    let z : i ≡ at + f.0 = omega (arith, f.1) in
    let y : i - at ≡ f.0 = omega (arith, z) in
    omega (arith, ap (λ k. top_var (shift_term 0 k w)) y, ap top_var (here z), f.2)
  where
    here : i ≡ at + f.0 → subst_term (at + f.0) (shift_term 0 f.0 w) (variable i) ≡ shift_term 0 f.0 w
    here z = rw (le-ltb i (at + f.0) (omega (arith, z)), eq-eqb i (at + f.0) z) refl

pub ruleset variables = (substitutes-below, substitutes-here, substitutes-above, fits-here)
