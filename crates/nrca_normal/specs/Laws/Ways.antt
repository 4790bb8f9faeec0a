-- The ways of each rule.
use Rattle.std.proofs.Common.{◌≡◌, ◌≢◌, ℕ, zero, suc, ◌+◌, ◌-◌, ◌<◌, ◌≤◌, Bool, true, false, not, List, [], ◌∷◌, ◌++◌, length, map, filter, nat_eq, if◌then◌else◌, refl, sym, ap, subst, ◌∙◌, arith}
use Rattle.std.proofs.Common.{◌⊎◌, inl, inr, eq-eqb}
use Rattle.std.proofs.lemmas.Bool.{eqb-true, cases_Bool, cases_lt}
use Rattle.std.proofs.lemmas.List.{length-map, map-append, append-nil}
use Rattle.std.proofs.lemmas.List.Elements.{filter-append}
use Rattle.aql_value.specs.Strict.{Strict}
use Rattle.nrca_term.specs.declared.trace.Rule.{Rule}
use Rattle.nrca_term.specs.declared.trace.Rule.TheVariants.{B1, K1, I1, I2, L1, L2, L3, P1, P2, S1, S2, S3, S4, S5, S6, S7, S8, S9, A1, A2, A3, A4, A5, A6, A7, C1, C2, C3, C4, N1, N2}
use Rattle.nrca_term.specs.Term.{Term, Form, node}
use Rattle.nrca_term.specs.Nodes.{number, position, let_term, proj_term, sub_term, dim_term, tab_term, literal_term}
use Rattle.nrca_term.specs.Rules.{Way, Atom, in_first, others, constant_literal}
use Rattle.aql_value.specs.Lists.{below, Every}
use Rattle.aql_value.specs.Laws.Lists.{below-last, Every-append_parts}
use Rattle.nrca_term.specs.Laws.Lists.{literal-parts}
use Rattle.nrca_normal.specs.declared.ways.Ways.{Ways}
use Rattle.nrca_normal.specs.declared.ways.Ways.TheVariants.{Free, First, Inner, Others}
use Rattle.nrca_normal.specs.Ways.{other_ways, AreWays, AreAtomWays, IsPosition}

-- the rules without a condition on parts of their left side
abbrev pub is_free : Rule → Bool
is_free B1 = true
is_free K1 = true
is_free I1 = true
is_free I2 = true
is_free L2 = true
is_free P2 = true
is_free S1 = true
is_free S2 = true
is_free S3 = true
is_free S4 = true
is_free S5 = true
is_free S6 = true
is_free S7 = true
is_free S8 = true
is_free S9 = true
is_free A2 = true
is_free A4 = true
is_free A7 = true
is_free N1 = true
is_free _ = false

pub free-ways : (R : Rule) (t : Term) → is_free R ≡ true → AreWays R t Free
unfolding AreWays
free-ways B1 t e r ws x = x.4
free-ways K1 t e r ws x = x.1
free-ways I1 t e r ws x = x.5
free-ways I2 t e r ws x = x.8
free-ways L2 t e r ws x = x.6
free-ways P2 t e r ws x = x.6
free-ways S1 t e r ws x = x.3
free-ways S2 t e r ws x = x.4
free-ways S3 t e r ws x = x.5
free-ways S4 t e r ws x = x.3
free-ways S5 t e r ws x = x.4
free-ways S6 t e r ws x = x.1
free-ways S7 t e r ws x = x.1
free-ways S8 t e r ws x = x.1
free-ways S9 t e r ws x = x.8
free-ways A2 t e r ws x = x.3
free-ways A4 t e r ws x = x.7
free-ways A7 t e r ws x = x.3
free-ways N1 t e r ws x = x.1
free-ways L1 t e r ws x = cc
free-ways L3 t e r ws x = cc
free-ways P1 t e r ws x = cc
free-ways A1 t e r ws x = cc
free-ways A3 t e r ws x = cc
free-ways A5 t e r ws x = cc
free-ways A6 t e r ws x = cc
free-ways C1 t e r ws x = cc
free-ways C2 t e r ws x = cc
free-ways C3 t e r ws x = cc
free-ways C4 t e r ws x = cc
free-ways N2 t e r ws x = cc

-- a let that nothing uses, and a default whose first part is defined
pub l3-ways : (t : Term) → AreWays L3 t First
unfolding AreWays
l3-ways t r ws x = x.2

pub n2-ways : (t : Term) → AreWays N2 t First
unfolding AreWays
n2-ways t r ws x = x.2

-- a let of an atom
pub l1-ways : (t e b : Term) (w : Ways) → t ≡ let_term e b → AreAtomWays e w → AreWays L1 t w
unfolding AreWays AreAtomWays
l1-ways t e b w h k r ws x = let z : x.0 ≡ e = same x.0 x.1 e b (sym x.3 ∙ h) in k ws (subst (λ a. Atom a ws) z x.2)
  where
    same : (a c e b : Term) → let_term a c ≡ let_term e b → a ≡ e
    same a c e b q = cc

-- an atom that is no position wants nothing
atom-free : (a : Term) (ws : List Way) → ((n : ℕ) → a ≡ position n → ⊥) → Atom a ws → ws ≡ []
atom-free (node (Form.var i) ps) ws other h = h.1
atom-free (node (Form.global n) ps) ws other h = absurd (other n (ap (node (Form.global n)) h.0))
atom-free (node (Form.strict (Strict.nat n)) ps) ws other h = h.1
atom-free (node (Form.strict (Strict.bool b)) ps) ws other h = h.1
atom-free (node (Form.strict (Strict.text s)) ps) ws other h = h.1
atom-free (node (Form.strict Strict.empty) ps) ws other h = h.1
atom-free _ ws other h = absurd h

pub atom-first : (a : Term) → IsPosition true a → AreAtomWays a First
unfolding AreAtomWays
atom-first a p ws h = let k : Atom (position p.0) ws = subst (λ x. Atom x ws) p.1 h in k.1

pub atom-none : (a : Term) → IsPosition false a → AreAtomWays a Free
unfolding AreAtomWays
atom-none a p ws h = atom-free a ws p h

zero-on : (l : List ℕ) → l ≡ map (λ i. 0 + i) l
zero-on [] = refl
zero-on (i ∷ l) = let z : i ≡ 0 + i = omega arith in ap (λ j. j ∷ l) z ∙ ap (λ m. (0 + i) ∷ m) (zero-on l)

-- a component of a tuple
pub p1-ways : (t a : Term) (at of : ℕ) → t ≡ proj_term at of a → AreWays P1 t (Others 0 (at - 1) of)
unfolding AreWays
p1-ways t a at of h r ws x =
    let q = sides (suc x.0) (length x.1) at of _ a (sym x.2 ∙ h) in
    let j : x.0 ≡ at - 1 = omega (arith, q.0) in
    x.4 ∙ ap (λ n. in_first (others x.0 n)) q.1 ∙ ap (λ i. in_first (others i of)) j ∙ ap in_first (zero-on (others (at - 1) of))
  where
    sides : (m n at of : ℕ) (u a : Term) → proj_term m n u ≡ proj_term at of a → (m ≡ at) × (n ≡ of)
    sides m n at of u a e = (cc, cc)

-- a subscript of a tabulation
pub a1-ways : (t o b : Term) (ds at : List Term) → t ≡ sub_term o at → o ≡ tab_term ds b → AreWays A1 t (Inner (length ds))
unfolding AreWays
a1-ways t o b ds at h k r ws x =
    let z = array x.2 at (tab_term x.0 x.1) o (sym x.4 ∙ h) in
    x.6 ∙ ap (λ n. in_first (n ∷ [])) (ranks x.0 ds x.1 b (z ∙ k))
  where
    array : (is at : List Term) (a o : Term) → sub_term a is ≡ sub_term o at → a ≡ o
    array is at a o e = cc

    ranks : (es ds : List Term) (c b : Term) → tab_term es c ≡ tab_term ds b → length es ≡ length ds
    ranks es ds c b e = cc

-- the dimensions of a tabulation
pub a3-ways : (t a : Term) (k : ℕ) → t ≡ dim_term k a → AreWays A3 t (Inner k)
unfolding AreWays
a3-ways t a k h r ws x = x.4 ∙ ap (λ n. in_first (n ∷ [])) (ranks (length x.0) k _ a (sym x.2 ∙ h))
  where
    ranks : (m k : ℕ) (u a : Term) → dim_term m u ≡ dim_term k a → m ≡ k
    ranks m k u a e = cc

-- a number is not a greater one
not-equal : (m n : ℕ) → m < n → nat_eq m n ≡ false
not-equal m n l = elim (cases_Bool (nat_eq m n)) [ inl e ↦ absurd (omega (arith, l, eqb-true m n e)) | inr e ↦ e ]

-- different numbers, and equal ones
pub not-same : (m n : ℕ) → m ≢ n → nat_eq m n ≡ false
not-same m n h = elim (cases_Bool (nat_eq m n)) [ inl e ↦ absurd (h (eqb-true m n e)) | inr e ↦ e ]

pub is-same : (m n : ℕ) → m ≡ n → nat_eq m n ≡ true
is-same m n h = eq-eqb m n h

-- the last of the numbers below n + 1 is there, unless it is the one left out
last-other : (but n : ℕ) (b : Bool) → nat_eq n but ≡ b → others but (suc n) ≡ others but n ++ (if b then [] else (n ∷ []))
last-other but n b e =
    ap (filter (λ i. not (nat_eq i but))) (below-last n)
    ∙ filter-append (λ i. not (nat_eq i but)) (below n) (n ∷ [])
    ∙ ap (λ l. others but n ++ l) (alone (nat_eq n but) b e)
  where
    alone : (c b : Bool) → c ≡ b → (if not c then (n ∷ []) else []) ≡ (if b then [] else (n ∷ []))
    alone true true e = refl
    alone false false e = refl
    alone true false e = cc
    alone false true e = cc

-- all numbers below m, none of which is n
others-all : (n m : ℕ) → m ≤ n → others n m ≡ below m
others-all n zero l = refl
others-all n (suc m) l =
    last-other n m false (not-equal m n (omega (arith, l)))
    ∙ ap (λ k. k ++ m ∷ []) (others-all n m (omega (arith, l)))
    ∙ sym (below-last m)

-- one part more, which is not the one left out
pub ways-more : (from but n : ℕ) → nat_eq n but ≡ false → other_ways from but (suc n) ≡ other_ways from but n ++ (0 ∷ (from + n) ∷ []) ∷ []
ways-more from but n e =
    ap (λ l. in_first (map (λ i. from + i) l)) (last-other but n false e)
    ∙ ap in_first (map-append (λ i. from + i) (others but n) (n ∷ []))
    ∙ map-append (λ i. 0 ∷ i ∷ []) (map (λ i. from + i) (others but n)) ((from + n) ∷ [])

-- one part more, which is
pub ways-same : (from but n : ℕ) → nat_eq n but ≡ true → other_ways from but (suc n) ≡ other_ways from but n
ways-same from but n e = ap (λ l. in_first (map (λ i. from + i) l)) (last-other but n true e ∙ append-nil (others but n))

-- what holds of the ways to one part more holds of those before it
ways-before : (P : Way → Type 0) (from but n : ℕ) (b : Bool) → nat_eq n but ≡ b → Every P (other_ways from but (suc n)) → Every P (other_ways from but n)
ways-before P from but n true k h = subst (Every P) (ways-same from but n k) h
ways-before P from but n false k h = (Every-append_parts P (other_ways from but n) ((0 ∷ (from + n) ∷ []) ∷ []) (subst (Every P) (ways-more from but n k) h)).0

-- and of the last, unless it is left out
ways-last : (P : Way → Type 0) (from but n : ℕ) → nat_eq n but ≡ false → Every P (other_ways from but (suc n)) → P (0 ∷ (from + n) ∷ [])
ways-last P from but n k h = (Every-append_parts P (other_ways from but n) ((0 ∷ (from + n) ∷ []) ∷ []) (subst (Every P) (ways-more from but n k) h)).1.0

-- what holds of all these ways holds of each
pub one-of-ways : (P : Way → Type 0) (from but n i : ℕ) → i < n → nat_eq i but ≡ false → Every P (other_ways from but n) → P (0 ∷ (from + i) ∷ [])
one-of-ways P from but zero i l e h = absurd (omega (arith, l))
one-of-ways P from but (suc n) i l e h = at (λ m. one-of-ways P from but n i m e (ways-before P from but n (nat_eq n but) refl h)) (cases_lt i n)
  where
    at : (i < n → P (0 ∷ (from + i) ∷ [])) → (i < n) ⊎ (n ≤ i) → P (0 ∷ (from + i) ∷ [])
    at f (inl m) = f m
    at f (inr m) =
        let z : n ≡ i = omega (arith, l, m) in
        subst (λ j. P (0 ∷ (from + j) ∷ [])) z (ways-last P from but n (ap (λ j. nat_eq j but) z ∙ e) h)

-- the dimensions of a literal array
pub a6-ways : (t o : Term) (k : ℕ) (ds cs : List Term) → t ≡ dim_term k o → o ≡ literal_term ds cs → AreWays A6 t (Others (length ds) (length cs) (length cs))
unfolding AreWays
a6-ways t o k ds cs h e r ws x =
    let z = array (length x.0) k (constant_literal x.0 x.1) o (sym x.2 ∙ h) in
    let q = literal-parts (map number x.0) ds x.1 cs (z ∙ e) in
    x.5
    ∙ ap (λ n. in_first (map (λ i. n + i) (below (length x.1)))) (sym (length-map x.0 number) ∙ ap length q.0)
    ∙ ap (λ n. in_first (map (λ i. length ds + i) (below n))) (ap length q.1)
    ∙ ap (λ l. in_first (map (λ i. length ds + i) l)) (sym (others-all (length cs) (length cs) (omega arith)))
  where
    array : (m k : ℕ) (a o : Term) → dim_term m a ≡ dim_term k o → a ≡ o
    array m k a o e = cc
