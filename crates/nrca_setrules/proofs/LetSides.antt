-- Where L1 and L3 fit, and their right sides, from one equation a node.
use Rattle.std.proofs.Common.{◌≡◌, ℕ, ◌+◌, ◌-◌, ◌<◌, ◌^◌, Bool, true, false, List, [], ◌∷◌, refl, sym, ap, subst, ◌∙◌, arith, min, nat_eq}
use Rattle.nrca_term.specs.declared.trace.Rule.TheVariants.{L1, L3}
use Rattle.nrca_term.specs.Term.{Term, WellFormed, Closed, weight_of}
use Rattle.nrca_term.specs.Nodes.{let_term, bottom_term}
use Rattle.nrca_term.specs.Subst.{shift_term, subst_term, top_var, uses_of}
use Rattle.nrca_term.specs.Laws.TypedForm.{top_var-closed}
use Rattle.nrca_term.specs.Laws.SubstTops.{top_var-subst_le}
use Rattle.nrca_term.specs.Rules.{Way, Atom}
use Rattle.nrca_rule_laws.specs.Fitting.{RuleFits, IsSmallPart, IsRight}
use Rattle.nrca_rule_laws.specs.Laws.Fitting.{right-side}
use Rattle.std.proofs.lemmas.Bool.{eqb-true, eqb-false}
use Rattle.nrca_rule_laws.specs.Laws.Unused.{shift-unused, uses-shifted}
use Rattle.nrca_setrules.proofs.Sides.{right_of}

-- there is room for what is put into the body of a let
pub let_room : (t a b : Term) → t ≡ let_term a b → WellFormed a → WellFormed b → IsSmallPart t → top_var (subst_term 0 a b) < 2 ^ 64
let_room t a b s g h i =
    let d : Closed (i.0 + 0) a = (subst (Closed i.0) s i.1).1.0 in
    let c : Closed (i.0 + 1) b = (subst (Closed i.0) s i.1).1.1.0 in
    let w : weight_of t ≡ weight_of (let_term a b) = ap weight_of s in
    omega (arith, top_var-subst_le 0 a b (i.0 + 1 + weight_of a + weight_of b) h (omega (arith, top_var-closed (i.0 + 1) b h c)) (omega (arith, top_var-closed (i.0 + 0) a g d)), i.2, w)

-- L1 fits a let of an atom
pub l1_fits : (t o a b : Term) (ws : List Way) → t ≡ let_term o b → o ≡ a → Atom a ws → RuleFits L1 true t
l1_fits t o a b ws h k x = (subst_term 0 a b, ws, (a, b, x, h ∙ ap (λ z. let_term z b) k, refl))

-- equal lets have equal substituted bodies
put_in : (a b c d : Term) → let_term a b ≡ let_term c d → subst_term 0 a b ≡ subst_term 0 c d
put_in a b c d e = let x : a ≡ c = cc in let y : b ≡ d = cc in ap (λ z. subst_term 0 z b) x ∙ ap (subst_term 0 c) y

-- the substituted body is the right side of L1
pub l1_right : (t a b r : Term) → RuleFits L1 true t → t ≡ let_term a b → r ≡ subst_term 0 a b → IsRight L1 t r
l1_right t a b r f h p = right_of L1 t r f (f.2.4 ∙ put_in f.2.0 f.2.1 a b (sym f.2.3 ∙ h) ∙ sym p)

-- a let whose variable is not used is the let of a shifted body
pub unused-right : (t e b w : Term) → t ≡ let_term e b → WellFormed b → uses_of 0 b ≡ 0 → IsRight L3 t (subst_term 0 w b)
unused-right t e b w s h u = right-side L3 t (subst_term 0 w b) ((0 ∷ []) ∷ []) (e, s ∙ ap (let_term e) (shift-unused 0 w b h u), refl)

-- equal lets have equal bodies
let-body : (e b f c : Term) → let_term e b ≡ let_term f c → b ≡ c
let-body e b f c s = cc

-- L3 fits exactly where the variable has no uses
pub fits_let : (t e b : Term) (n : ℕ) → t ≡ let_term e b → WellFormed b → n ≡ min (uses_of 0 b) (2 ^ 64 - 1) → RuleFits L3 (nat_eq n 0) t
fits_let t e b n s h m = at (nat_eq n 0) refl
  where
    at : (c : Bool) → nat_eq n 0 ≡ c → RuleFits L3 c t
    at true q = let r = unused-right t e b bottom_term s h (omega (arith, m, eqb-true n 0 q)) in (subst_term 0 bottom_term b, r.ways, r.redex)
    at false q = λ r ws x. eqb-false n 0 q (omega (arith, m, ap (uses_of 0) (let-body e b x.0 (shift_term 0 1 r) (sym s ∙ x.1)), uses-shifted 0 r))

-- the variable is not used where L3 fits
pub let_unused : (t e b : Term) → t ≡ let_term e b → RuleFits L3 true t → uses_of 0 b ≡ 0
let_unused t e b s f = ap (uses_of 0) (let-body e b f.2.0 (shift_term 0 1 f.0) (sym s ∙ f.2.1)) ∙ uses-shifted 0 f.0

-- there is room for the variables of the body
pub body_room : (t e b : Term) → t ≡ let_term e b → WellFormed b → IsSmallPart t → top_var (subst_term 0 bottom_term b) < 2 ^ 64
body_room t e b s h i =
    let c : Closed (i.0 + 1) b = (subst (Closed i.0) s i.1).1.1.0 in
    let w : weight_of t ≡ weight_of (let_term e b) = ap weight_of s in
    omega (arith, top_var-subst_le 0 bottom_term b (i.0 + 1 + weight_of b) h (omega (arith, top_var-closed (i.0 + 1) b h c)) (omega arith), i.2, w)
