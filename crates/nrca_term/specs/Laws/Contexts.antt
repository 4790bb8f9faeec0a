-- What is kept on the way down to a place holds at each list of values that comes there.
use Rattle.std.proofs.Common.{◌≡◌, ℕ, zero, suc, ◌+◌, ◌-◌, ◌≤◌, Bool, List, [], ◌∷◌, ◌++◌, length, map, drop, take, Option, Some, None, refl, sym, ap, subst, ◌∙◌, arith, length-append, inl, inr}
use Rattle.aql_value.specs.Datum.{Datum, truth}
use Rattle.aql_value.specs.Lists.{Every}
use Rattle.aql_value.specs.Laws.Lists.{Every-impl, Every-join, Every-append, Every-nested}
use Rattle.aql_value.specs.Partial.{concat}
use Rattle.nrca_term.specs.Term.{Term, child_of, parts_of, form_of, binders_of, form_binders, WellFormed}
use Rattle.nrca_term.specs.Meaning.{Outcomes, cden, part_values}
use Rattle.nrca_term.specs.Places.{entered_in, reach, reach_each}
use Rattle.nrca_term.specs.Subst.{shift_term}
use Rattle.nrca_term.specs.Laws.Shifting.{cden-shift_term}
use Rattle.nrca_term.specs.Laws.Entering.{entered-lengths, length-part_values, child-counted}
use Rattle.nrca_term.specs.Laws.WellFormed.{well_formed-child, binders-well_formed}
use Rattle.nrca_term.specs.Facts.{Known, truth_of, Fact, Context, no_facts, part_facts, enter_facts, context_below, context_at, facts_at, Holds, FactsHold, SomeFact, IsFact, LiterallyKnown, Literally}
use Rattle.nrca_term.specs.Laws.Facts.{new-holds}

-- The one induction over the way down: I is kept of a context and the values around, and G of a context and the term.
pub reach-induction : {C : Type 0} (V : Outcomes) (enter : C → Term → ℕ → C) (I : C → List Datum → Type 0) (G : C → Term → Type 0) →
    ((c : C) (t : Term) (i : ℕ) (u : Term) → G c t → child_of (parts_of t) i ≡ Some u → G (enter c t i) u) →
    ((c : C) (around : List Datum) (t : Term) (i : ℕ) (u : Term) → G c t → child_of (parts_of t) i ≡ Some u → I c around → Every (λ new. I (enter c t i) (new ++ around)) (entered_in V around t i)) →
    (path : List ℕ) (c : C) (around : List Datum) (t : Term) → G c t → I c around → Every (I (context_at enter c t path)) (reach V around t path)
reach-induction V enter I G below step [] c around t g h = (h, tt)
reach-induction {C = C} V enter I G below step (i ∷ path) c around t g h =
    entering (child_of (parts_of t) i) refl (λ u e new k. reach-induction V enter I G below step path (enter c t i) (new ++ around) u (below c t i u g e) k)
  where
    entering : (o : Option Term) → child_of (parts_of t) i ≡ o →
        ((u : Term) → child_of (parts_of t) i ≡ Some u → (new : List Datum) → I (enter c t i) (new ++ around) → Every (I (context_at enter (enter c t i) u path)) (reach V (new ++ around) u path)) →
        Every (I (context_below c o (λ u. context_at enter (enter c t i) u path))) (reach_each o (λ u. concat (map (λ new. reach V (new ++ around) u path) (entered_in V around t i))))
    entering None e ih = tt
    entering (Some u) e ih = Every-nested _ (λ new. reach V (new ++ around) u path) (entered_in V around t i) (Every-impl _ _ (λ new k. ih u e new k) (entered_in V around t i) (step c around t i u g e h))

drop-past : {X : Type 0} (new xs : List X) (n : ℕ) → drop (length new + n) (new ++ xs) ≡ drop n xs
drop-past [] xs n = let e : 0 + n ≡ n = omega arith in ap (λ k. drop k xs) e
drop-past (x ∷ new) xs n = let e : suc (length new) + n ≡ suc (length new + n) = omega arith in ap (λ k. drop k (x ∷ (new ++ xs))) e ∙ drop-past new xs n

-- what holds around a node holds in its parts
pub old-holds : (V : Outcomes) (around new : List Datum) (d k : ℕ) (f : Fact) → length new ≡ k → Holds V around d f → Holds V (new ++ around) (d + k) f
old-holds V around new d k f e h =
    let n : d + k - f.depth ≡ length new + (d - f.depth) = omega (arith, h.0, e) in
    (omega (arith, h.0), ap (λ l. cden V l f.comparison) (ap (λ m. drop m (new ++ around)) n ∙ drop-past new around (d - f.depth)) ∙ h.1)

pub stands-enter : (V : Outcomes) (c : Context) (around : List Datum) (t : Term) (i : ℕ) (u : Term) → WellFormed t → child_of (parts_of t) i ≡ Some u → FactsHold V c around →
    Every (λ new. FactsHold V (enter_facts c t i) (new ++ around)) (entered_in V around t i)
stands-enter V c around t i u s e h =
    let b = binders-well_formed t i u s e in
    let l = child-counted (parts_of t) i u e in
    Every-join (λ new. length new ≡ form_binders (form_of t) i) (λ new. Every (Holds V (new ++ around) (c.depth + form_binders (form_of t) i)) (part_facts c.depth (form_of t) (parts_of t) i)) _
    (λ new n k. (
      omega (arith, length-append new around, n, b, h.0),
      Every-append (Holds V (new ++ around) (c.depth + binders_of (parts_of t) i)) c.facts (part_facts c.depth (form_of t) (parts_of t) i)
          (Every-impl (Holds V around c.depth) (Holds V (new ++ around) (c.depth + binders_of (parts_of t) i)) (λ f x. old-holds V around new c.depth (binders_of (parts_of t) i) f (n ∙ sym b) x) c.facts h.1)
          (subst (λ m. Every (Holds V (new ++ around) (c.depth + m)) (part_facts c.depth (form_of t) (parts_of t) i)) (sym b) k),
    ))
    (entered_in V around t i) (entered-lengths (form_of t) (part_values V around (parts_of t)) i (omega (arith, l, length-part_values V around (parts_of t)))) (new-holds V around c.depth (form_of t) (parts_of t) i l)

-- from values at which the facts around a term stand
pub stands-from : (V : Outcomes) (c : Context) (around : List Datum) (t : Term) → WellFormed t → FactsHold V c around → (path : List ℕ) → Every (FactsHold V (context_at enter_facts c t path)) (reach V around t path)
stands-from V c around t s h path =
    reach-induction V enter_facts (FactsHold V) (λ c t. WellFormed t) (λ c t i u w e. well_formed-child t i u w e) (λ c around t i u w e k. stands-enter V c around t i u w e k) path c around t s h

-- the facts of a place of a closed term stand at each list of values that comes there
pub stands : (V : Outcomes) (t : Term) → WellFormed t → (path : List ℕ) → Every (FactsHold V (facts_at t path)) (reach V [] t path)
stands V t s path = stands-from V no_facts [] t s (refl, tt) path

pub fact-found : (Q : Type 0) (P R : Fact → Type 0) (F : List Fact) → Every R F → SomeFact F P → ((f : Fact) → R f → P f → Q) → Q
fact-found Q P R [] r p h = absurd p
fact-found Q P R (f ∷ F) r (inl p) h = h f r.0 p
fact-found Q P R (f ∷ F) r (inr p) h = fact-found Q P R F r.1 p h

pub some-fact : (P Q : Fact → Type 0) → ((f : Fact) → P f → Q f) → (F : List Fact) → SomeFact F P → SomeFact F Q
some-fact P Q h [] p = absurd p
some-fact P Q h (f ∷ F) (inl p) = inl (h f p)
some-fact P Q h (f ∷ F) (inr p) = inr (some-fact P Q h F p)

take_drop : {X : Type 0} (n : ℕ) (xs : List X) → n ≤ length xs → (length (take n xs) ≡ n) × (take n xs ++ drop n xs ≡ xs)
take_drop zero xs l = (refl, refl)
take_drop (suc n) [] l = absurd (omega (arith, l))
take_drop (suc n) (x ∷ xs) l = let r = take_drop n xs (omega (arith, l)) in (ap suc r.0, ap (λ ys. x ∷ ys) r.1)

-- a shifted term at values is the term at those past the first ones
pub cden-shift_drop : (V : Outcomes) (vals : List Datum) (n : ℕ) (t : Term) → n ≤ length vals → cden V vals (shift_term 0 n t) ≡ cden V (drop n vals) t
cden-shift_drop V vals n t l =
    let r = take_drop n vals l in
    ap (λ w. cden V w (shift_term 0 n t)) (sym r.1) ∙ ap (λ m. cden V (take n vals ++ drop n vals) (shift_term 0 m t)) (sym r.0) ∙ cden-shift_term V [] (take n vals) (drop n vals) t

-- a comparison that is literally a fact has its truth value
pub literally-true : (V : Outcomes) (c : Context) (vals : List Datum) (b : Bool) (t : Term) → FactsHold V c vals → Literally c b t → cden V vals t ≡ Some (truth b)
literally-true V c vals b t h l =
    fact-found (cden V vals t ≡ Some (truth b)) (λ f. (truth_of f.known ≡ b) × IsFact c t f) (Holds V vals c.depth) c.facts h.1 l
    (λ f r p. ap (cden V vals) p.1 ∙ cden-shift_drop V vals (c.depth - f.depth) f.comparison (omega (arith, h.0)) ∙ r.1 ∙ ap (λ x. Some (truth x)) p.0)

-- one that is literally known has the truth value of that kind
pub known-literally : (k : Known) (c : Context) (t : Term) → LiterallyKnown k c t → Literally c (truth_of k) t
known-literally k c t h = some-fact (λ f. (f.known ≡ k) × IsFact c t f) (λ f. (truth_of f.known ≡ truth_of k) × IsFact c t f) (λ f p. (ap truth_of p.0, p.1)) c.facts h

-- What holds of each list of values at a place of a part, wherever I is kept of the part's context, holds at the longer path of
-- the node, wherever I is kept of the node's.
pub ready-above : {C : Type 0} (enter : C → Term → ℕ → C) (I : Outcomes → C → List Datum → Type 0) (P : Outcomes → List Datum → Type 0) (c : C) (t : Term) (i : ℕ) (u : Term) (path : List ℕ) →
    child_of (parts_of t) i ≡ Some u →
    ((V : Outcomes) (around : List Datum) → I V c around → Every (λ new. I V (enter c t i) (new ++ around)) (entered_in V around t i)) →
    ((V : Outcomes) (around : List Datum) → I V (enter c t i) around → Every (P V) (reach V around u path)) →
    (V : Outcomes) (around : List Datum) → I V c around → Every (P V) (reach V around t (i ∷ path))
ready-above enter I P c t i u path e step h V around k =
    subst (λ o. Every (P V) (reach_each o (λ r. concat (map (λ new. reach V (new ++ around) r path) (entered_in V around t i))))) (sym e)
    (Every-nested (P V) (λ new. reach V (new ++ around) u path) (entered_in V around t i)
    (Every-impl (λ new. I V (enter c t i) (new ++ around)) (λ new. Every (P V) (reach V (new ++ around) u path)) (λ new m. h V (new ++ around) m) (entered_in V around t i) (step V around k)))
