-- Where P1 and P2 fit, and their right sides, from one equation a node.
use Rattle.std.proofs.Common.{◌≡◌, ℕ, zero, suc, ◌-◌, ◌<◌, ◌≤◌, Bool, true, false, List, [], ◌∷◌, length, get_or, Some, refl, sym, ap, ◌∙◌, arith}
use Rattle.std.specs.List.{slice_get}
use Rattle.std.proofs.lemmas.Option.{same_Some, slice_get_within, slice_get-get_or}
use Rattle.nrca_term.specs.declared.trace.Rule.TheVariants.{P1, P2}
use Rattle.nrca_term.specs.Term.{Term, none, plain, parts_of, child_of, count}
use Rattle.nrca_term.specs.Nodes.{bottom_term, let_term, proj_term, tuple_term}
use Rattle.nrca_term.specs.Rules.{in_first, others}
use Rattle.nrca_rule_laws.specs.Fitting.{RuleFits, IsRight}
use Rattle.nrca_rule_laws.specs.Laws.Fitting.{right-side}
use Rattle.nrca_setrules.proofs.Sides.{right_of}

-- the parts of a tuple
pub child_of-plain : (ts : List Term) (j : ℕ) → child_of (plain ts none) j ≡ slice_get ts j
child_of-plain [] j = refl
child_of-plain (t ∷ ts) zero = refl
child_of-plain (t ∷ ts) (suc j) = child_of-plain ts j

-- P1 fits a component that the tuple has
pub p1_fits : (at of : ℕ) (t o : Term) (ts : List Term) → t ≡ proj_term at of o → o ≡ tuple_term ts → (1 ≤ at) × (at ≤ of) × (of ≡ length ts) → RuleFits P1 true t
p1_fits zero of t o ts h k c = absurd (omega (arith, c.0))
p1_fits (suc j) of t o ts h k c =
    let l : j < length ts = omega (arith, c.1, c.2) in
    (get_or ts j bottom_term, in_first (others j (length ts)), (j, ts, h ∙ ap (λ n. proj_term (suc j) n o) c.2 ∙ ap (proj_term (suc j) (length ts)) k, slice_get-get_or ts j bottom_term l, refl))

-- equal components of tuples have equal numbers and tuples
proj-same : (a b m n : ℕ) (ts us : List Term) → proj_term a m (tuple_term ts) ≡ proj_term b n (tuple_term us) → (a ≡ b) × (m ≡ n) × (ts ≡ us)
proj-same a b m n ts us e = (cc, cc, plain-same ts us cc)
  where
    plain-same : (ts us : List Term) → plain ts none ≡ plain us none → ts ≡ us
    plain-same [] [] e = refl
    plain-same [] (u ∷ us) e = cc
    plain-same (t ∷ ts) [] e = cc
    plain-same (t ∷ ts) (u ∷ us) e = let x : t ≡ u = cc in let y : ts ≡ us = plain-same ts us cc in ap (λ z. z ∷ ts) x ∙ ap (λ zs. u ∷ zs) y

-- what the reading of P1 has for the parts of the term
p1_parts : (at of : ℕ) (t o : Term) (ts : List Term) → t ≡ proj_term at of o → o ≡ tuple_term ts → (f : RuleFits P1 true t) → (at ≡ suc f.2.0) × (of ≡ length ts) × (slice_get ts f.2.0 ≡ Some f.0)
p1_parts at of t o ts h k f =
    let e = proj-same at (suc f.2.0) of (length f.2.1) ts f.2.1 (ap (proj_term at of) (sym k) ∙ sym h ∙ f.2.2) in
    (e.0, e.1 ∙ ap length (sym e.2), ap (λ us. slice_get us f.2.0) e.2 ∙ f.2.3)

-- P1 does not fit where the tuple has no such component
pub p1_unfit : (at of : ℕ) (t o : Term) (ts : List Term) → t ≡ proj_term at of o → o ≡ tuple_term ts → ((1 ≤ at) × (at ≤ of) × (of ≡ length ts) → ⊥) → RuleFits P1 false t
p1_unfit at of t o ts h k out = λ r ws x.
    let f : RuleFits P1 true t = (r, ws, x) in
    let e = p1_parts at of t o ts h k f in
    let l = slice_get_within ts f.2.0 f.0 e.2 in
    out (omega (arith, e.0), omega (arith, e.0, e.1, l), e.1)

-- P1 fits exactly where the tuple has the component
pub p1_tells : (b : Bool) (at of n : ℕ) (t o : Term) (ts : List Term) → t ≡ proj_term at of o → o ≡ tuple_term ts → length ts ≡ n → (b ≡ true → (1 ≤ at) × (at ≤ of) × (of ≡ n)) → ((1 ≤ at) × (at ≤ of) × (of ≡ n) → b ≡ true) → RuleFits P1 b t
p1_tells true at of n t o ts h k e y x = let c = y refl in p1_fits at of t o ts h k (c.0, c.1, c.2 ∙ sym e)
p1_tells false at of n t o ts h k e y x = p1_unfit at of t o ts h k (λ c. let z : false ≡ true = x (c.0, c.1, c.2 ∙ e) in cc)

-- a tuple has as many parts as terms
count-plain : (ts : List Term) → count (plain ts none) ≡ length ts
count-plain [] = refl
count-plain (t ∷ ts) = ap suc (count-plain ts)

-- equal components have equal places and terms
proj-parts : (a b m n : ℕ) (o p : Term) → proj_term a m o ≡ proj_term b n p → (a ≡ b) × (o ≡ p)
proj-parts a b m n o p e = (cc, cc)

-- the place of the component is a part of the tuple
pub p1_within : (at of : ℕ) (t o : Term) → t ≡ proj_term at of o → RuleFits P1 true t → (1 ≤ at) × (at - 1 < count (parts_of o))
p1_within at of t o h f =
    let e = proj-parts at (suc f.2.0) of (length f.2.1) o (tuple_term f.2.1) (sym h ∙ f.2.2) in
    let n : count (parts_of o) ≡ length f.2.1 = ap (λ x. count (parts_of x)) e.1 ∙ count-plain f.2.1 in
    (omega (arith, e.0), omega (arith, e.0, n, slice_get_within f.2.1 f.2.0 f.0 f.2.3))

-- the part at the place is the right side of P1
pub p1_right : (at of i : ℕ) (t o r : Term) → t ≡ proj_term at of o → RuleFits P1 true t → i ≡ at - 1 → Some r ≡ child_of (parts_of o) i → IsRight P1 t r
p1_right at of i t o r h f s q =
    let e = proj-parts at (suc f.2.0) of (length f.2.1) o (tuple_term f.2.1) (sym h ∙ f.2.2) in
    let j : i ≡ f.2.0 = omega (arith, e.0, s) in
    let z : Some f.0 ≡ Some r = sym f.2.3 ∙ sym (child_of-plain f.2.1 f.2.0) ∙ ap (child_of (plain f.2.1 none)) (sym j) ∙ ap (λ x. child_of (parts_of x) i) (sym e.1) ∙ sym q in
    right_of P1 t r f (same_Some f.0 r z)

-- P2 fits a component of a let
pub p2_fits : (j n : ℕ) (t o e b : Term) → t ≡ proj_term j n o → o ≡ let_term e b → RuleFits P2 true t
p2_fits j n t o e b h k = (let_term e (proj_term j n b), [], (j, n, e, b, h ∙ ap (proj_term j n) k, refl, refl))

-- the let of the component is the right side of P2
pub p2_right : (j n : ℕ) (t o e b r y : Term) → t ≡ proj_term j n o → o ≡ let_term e b → r ≡ let_term e y → y ≡ proj_term j n b → IsRight P2 t r
p2_right j n t o e b r y h k p q = right-side P2 t r [] (j, n, e, b, h ∙ ap (proj_term j n) k, p ∙ ap (let_term e) q, refl)
