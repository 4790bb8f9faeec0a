-- Where A1 fits, its right side, and the lists of tests and lets that it is made of.
use Rattle.std.proofs.Common.{◌≡◌, ℕ, ◌+◌, ◌<◌, ◌≤◌, ◌^◌, nat_eq, Bool, true, false, List, [], ◌∷◌, ◌++◌, length, refl, sym, ap, subst, ◌∙◌, arith}
use Rattle.std.proofs.lemmas.Bool.{eqb-true, eqb-false}
use Rattle.nrca_term.specs.declared.trace.Rule.TheVariants.{A1}
use Rattle.nrca_term.specs.Term.{Term, none, part, plain, WellFormed, Closed, weight_of}
use Rattle.nrca_term.specs.Nodes.{sub_term, tab_term, tuple_term}
use Rattle.nrca_term.specs.Subst.{top_var, parts_top}
use Rattle.nrca_term.specs.Laws.TypedForm.{top_var-closed}
use Rattle.nrca_term.specs.Rules.{beta, guard, lets, in_first}
use Rattle.nrca_rule_laws.specs.Fitting.{RuleFits, IsSmallPart, IsRight}
use Rattle.nrca_rule_laws.specs.Laws.Fitting.{right-side}
use Rattle.nrca_arrayrules.proofs.TabulationSides.{tab-same, sub-same}
use Rattle.nrca_arrayrules.proofs.SizeSides.{bounds-closed, bounds-light}
use Rattle.nrca_arrayrules.specs.Beta.{MayShift}

-- equal subscripts of tabulations have equally many bounds and indices
a1_lengths : (t o b : Term) (ds is : List Term) → t ≡ sub_term o is → o ≡ tab_term ds b → RuleFits A1 true t → length ds ≡ length is
a1_lengths t o b ds is h k f =
    let y = f.2 in
    let z = sub-same o (tab_term y.0 y.1) is y.2 (sym h ∙ y.4) in
    let w = tab-same ds y.0 b y.1 (sym k ∙ z.0) in
    ap length w.0 ∙ y.3 ∙ sym (ap length z.1)

-- A1 fits exactly where there are as many indices as bounds
pub a1_tells : (m n : ℕ) (t o b : Term) (ds is : List Term) → t ≡ sub_term o is → o ≡ tab_term ds b → length ds ≡ m → length is ≡ n → RuleFits A1 (nat_eq m n) t
a1_tells m n t o b ds is h k e l = at (nat_eq m n) refl
  where
    at : (c : Bool) → nat_eq m n ≡ c → RuleFits A1 c t
    at true q = (beta ds b is, in_first (length ds ∷ []), (ds, b, is, e ∙ eqb-true m n q ∙ sym l, h ∙ ap (λ x. sub_term x is) k, refl, refl))
    at false q = λ r ws y. eqb-false m n q (sym e ∙ a1_lengths t o b ds is h k (r, ws, y) ∙ l)

-- the lets around the tests are the right side of A1
pub a1_right : (t o b r u : Term) (ds is : List Term) → t ≡ sub_term o is → o ≡ tab_term ds b → RuleFits A1 true t → u ≡ guard (length ds) ds b → r ≡ lets 0 is u → IsRight A1 t r
a1_right t o b r u ds is h k f p q =
    right-side A1 t r (in_first (length ds ∷ [])) (ds, b, is, a1_lengths t o b ds is h k f, h ∙ ap (λ x. sub_term x is) k, q ∙ ap (lets 0 is) p, refl)

-- the indices of a closed subscript are closed
indices-small : (n : ℕ) (o : Term) (is : List Term) → WellFormed (tuple_term is) → Closed n (sub_term o is) → top_var (tuple_term is) < n + weight_of (sub_term o is)
indices-small n o is w c =
    let q : Closed n (tuple_term is) = (tt, c.1.1) in
    omega (arith, top_var-closed n (tuple_term is) w q)

-- there is room for the bounds under the names
pub bounds-room : (t o b : Term) (ds is : List Term) → t ≡ sub_term o is → o ≡ tab_term ds b → WellFormed (tuple_term ds) → IsSmallPart t → MayShift ds
bounds-room t o b ds is h k w i =
    let e = h ∙ ap (λ x. sub_term x is) k in
    let c = subst (Closed i.0) e i.1 in
    let y : i.0 + 0 ≡ i.0 = omega arith in
    let p : Closed i.0 (tab_term ds b) = subst (λ m. Closed m (tab_term ds b)) y c.1.0 in
    let q : Closed i.0 (tuple_term ds) = (tt, bounds-closed i.0 ds (part (length ds) b none) p.1) in
    omega (arith, top_var-closed i.0 (tuple_term ds) w q, bounds-light ds b, i.2, ap weight_of e)

-- there is room for the indices under the names
pub indices-room : (t o b : Term) (ds is : List Term) → t ≡ sub_term o is → o ≡ tab_term ds b → WellFormed (tuple_term is) → IsSmallPart t → RuleFits A1 true t → MayShift is
indices-room t o b ds is h k w i f =
    let e = h ∙ ap (λ x. sub_term x is) k in
    let c = subst (Closed i.0) h i.1 in
    omega (arith, indices-small i.0 o is w c, i.2, ap weight_of e, ap weight_of h, a1_lengths t o b ds is h k f)

-- a term of a list is no higher than the list
top-item : (front rest : List Term) (d : Term) → top_var d ≤ parts_top (plain (front ++ d ∷ rest) none)
top-item [] rest d = omega arith
top-item (x ∷ front) rest d = omega (arith, top-item front rest d)

-- each term may be shifted
pub item-room : (ts front rest : List Term) (d : Term) (n : ℕ) → ts ≡ front ++ d ∷ rest → n ≤ length ts → MayShift ts → top_var d + n < 2 ^ 64
item-room ts front rest d n e l h = omega (arith, h, l, ap (λ xs. parts_top (plain xs none)) e, top-item front rest d)

-- the last of the first terms goes to the rest
pub moved : (ts front rest : List Term) (d : Term) (all : List Term) → all ≡ ts ++ rest → ts ≡ front ++ d ∷ [] → all ≡ front ++ (d ∷ rest)
moved ts front rest d all e h = e ∙ ap (λ xs. xs ++ rest) h ∙ joined front
  where
    joined : (xs : List Term) → (xs ++ d ∷ []) ++ rest ≡ xs ++ (d ∷ rest)
    joined [] = refl
    joined (x ∷ xs) = ap (λ ys. x ∷ ys) (joined xs)
