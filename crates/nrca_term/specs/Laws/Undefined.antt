-- A node has no value where a strict part has none; so a term has none where a term without a value is put in for a variable
-- that is used at a place reached by strict parts alone.
use Rattle.std.proofs.Common.{◌≡◌, ℕ, zero, suc, ◌+◌, ◌<◌, ◌≤◌, Bool, true, false, ◌⊎◌, nat_eq, List, [], ◌∷◌, ◌++◌, length, take, None, refl, sym, ap, ◌∙◌, arith, if◌then◌else◌, inl, inr, append_assoc}
use Rattle.std.proofs.lemmas.Bool.{cases_Bool, le-ltb, eqb-true, ltb-true}
use Rattle.aql_value.specs.Datum.{Datum}
use Rattle.aql_value.specs.Indices.{indices}
use Rattle.aql_value.specs.Operations.{as_natural, as_truth, as_set, union_all, sum_of, array_of, push_index}
use Rattle.aql_value.specs.Partial.{◌>>=◌, each}
use Rattle.aql_value.specs.Laws.Partial.{then-none}
use Rattle.aql_value.specs.Strict.{strict_value}
use Rattle.nrca_term.specs.Term.{Term, Parts, node, none, part, Form}
use Rattle.nrca_term.specs.Meaning.{Outcomes, Part, worth, here, form_value, at_length, cden, part_values}
use Rattle.nrca_term.specs.Subst.{is_strict, strict_uses, parts_strict_uses, form_uses, shift_term, subst_var, subst_node, subst_term, subst_parts}
use Rattle.nrca_term.specs.Laws.Shifting.{cden-shift_term, under}

-- a part without a value at every list of values
abbrev pub Worthless : Part → Type 0
Worthless p = (new : List Datum) → p new ≡ None

each-worthless : (ps : List Part) (i : ℕ) → i < length ps → Worthless (worth ps i) → each here ps ≡ None
each-worthless [] i l h = absurd (omega arith)
each-worthless (p ∷ ps) zero l h = rw (h []) refl
each-worthless (p ∷ ps) (suc i) l h = rw (each-worthless ps i (omega arith) h) (then-none (p []) (λ y. None) (λ y e. refl))

each-worthless_take : (n : ℕ) (ps : List Part) (i : ℕ) → i < n → i < length ps → Worthless (worth ps i) → each here (take n ps) ≡ None
each-worthless_take zero ps i m l h = absurd (omega arith)
each-worthless_take (suc n) [] i m l h = absurd (omega arith)
each-worthless_take (suc n) (p ∷ ps) zero m l h = rw (h []) refl
each-worthless_take (suc n) (p ∷ ps) (suc i) m l h = rw (each-worthless_take n ps i (omega arith) (omega arith) h) (then-none (p []) (λ y. None) (λ y e. refl))

-- the one lemma with a case for each form
pub form_value-worthless : (V : Outcomes) (vals : List Datum) (f : Form) (ps : List Part) (i : ℕ) → is_strict f i ≡ true → i < length ps →
    Worthless (worth ps i) → form_value V vals f ps ≡ None
form_value-worthless V vals (Form.var n) ps i s l h = cc
form_value-worthless V vals (Form.global n) ps i s l h = cc
form_value-worthless V vals Form.bind ps zero s l h = ap (λ o. o >>= λ v. worth ps 1 (v ∷ [])) (h [])
form_value-worthless V vals Form.bind ps (suc zero) s l h = then-none (worth ps 0 []) (λ v. worth ps 1 (v ∷ [])) (λ v e. h (v ∷ []))
form_value-worthless V vals Form.bind ps (suc (suc i)) s l h = cc
form_value-worthless V vals Form.choose ps zero s l h = ap (λ o. o >>= as_truth >>= λ t. if t then worth ps 1 [] else worth ps 2 []) (h [])
form_value-worthless V vals Form.choose ps (suc i) s l h = cc
form_value-worthless V vals Form.default ps i s l h = cc
form_value-worthless V vals Form.big_union ps zero s l h = ap (λ o. o >>= as_set >>= each (λ m. worth ps 1 (m ∷ [])) >>= union_all) (h [])
form_value-worthless V vals Form.big_union ps (suc i) s l h = cc
form_value-worthless V vals Form.sum ps zero s l h = ap (λ o. o >>= as_set >>= each (λ m. worth ps 1 (m ∷ [])) >>= sum_of) (h [])
form_value-worthless V vals Form.sum ps (suc i) s l h = cc
form_value-worthless V vals (Form.tab rank) ps i s l h =
    ap (λ o. o >>= each as_natural >>= λ ds. each (λ at. worth ps rank (push_index at [])) (indices ds) >>= array_of ds) (each-worthless_take rank ps i (ltb-true i rank s) l h)
form_value-worthless V vals (Form.strict c) ps i s l h = ap (λ o. o >>= strict_value c) (each-worthless ps i l h)

-- a part whose every value list of the right length gives nothing
at_length-worthless : (k : ℕ) (f : Part) → ((vs : List Datum) → length vs ≡ k → f vs ≡ None) → Worthless (at_length k f)
at_length-worthless k f h new =
    elim (cases_Bool (nat_eq (length new) k)) [
      | inl e ↦ rw e (h new (eqb-true (length new) k e))
      | inr e ↦ rw e
    ]

has_use : (m n : ℕ) → 1 ≤ m + n → (1 ≤ m) ⊎ (1 ≤ n)
has_use zero n l = inr (omega arith)
has_use (suc m) n l = inl (omega arith)

-- a strict part, the i-th or a later one, that is worth nothing
abbrev pub Lacking : Form → ℕ → List Part → Type 0
Lacking f i ps = (j : ℕ) × (is_strict f (i + j) ≡ true) × (j < length ps) × Worthless (worth ps j)

lacking-node : (V : Outcomes) (vals : List Datum) (f : Form) (ps : List Part) → Lacking f 0 ps → form_value V vals f ps ≡ None
lacking-node V vals f ps r = let z : 0 + r.0 ≡ r.0 = omega arith in form_value-worthless V vals f ps r.0 (ap (is_strict f) (sym z) ∙ r.1) r.2 r.3

lacking-later : (f : Form) (i : ℕ) (p : Part) (ps : List Part) → Lacking f (suc i) ps → Lacking f i (p ∷ ps)
lacking-later f i p ps r = let z : i + suc r.0 ≡ suc i + r.0 = omega arith in (suc r.0, ap (is_strict f) z ∙ r.1, omega (arith, r.2), r.3)

lacking-here : (f : Form) (i : ℕ) (p : Part) (ps : List Part) → is_strict f i ≡ true → Worthless p → Lacking f i (p ∷ ps)
lacking-here f i p ps e h = let z : i + 0 ≡ i = omega arith in (0, ap (is_strict f) z ∙ e, omega arith, h)

lacking-part : (f : Form) (i m n : ℕ) (p : Part) (ps : List Part) (b : Bool) → is_strict f i ≡ b → (1 ≤ m → Worthless p) → (1 ≤ n → Lacking f (suc i) ps) →
    1 ≤ (if b then m else 0) + n → Lacking f i (p ∷ ps)
lacking-part f i m n p ps true e h k u =
    elim (has_use m n u) [
      | inl o ↦ lacking-here f i p ps e (h o)
      | inr o ↦ lacking-later f i p ps (k o)
    ]
lacking-part f i m n p ps false e h k u = lacking-later f i p ps (k (omega arith))

own_use : (V : Outcomes) (vals : List Datum) (at n : ℕ) (s : Term) → cden V vals s ≡ None → 1 ≤ (if nat_eq n at then 1 else 0) → cden V vals (subst_var at s n) ≡ None
own_use V vals at n s h u =
    elim (cases_Bool (nat_eq n at)) [
      | inl e ↦ rw (le-ltb n at (omega (arith, eqb-true n at e))) (rw e h)
      | inr e ↦ absurd (omega (arith, rw e at u))
    ]

subst_node-undefined : (V : Outcomes) (vals : List Datum) (at : ℕ) (s : Term) → cden V vals s ≡ None → (f : Form) (ps qs : Parts) →
    (1 ≤ parts_strict_uses at f 0 ps → Lacking f 0 (part_values V vals qs)) → 1 ≤ form_uses at f + parts_strict_uses at f 0 ps → cden V vals (subst_node at s f qs) ≡ None
subst_node-undefined V vals at s h (Form.var n) ps qs k u =
    elim (has_use (form_uses at (Form.var n)) (parts_strict_uses at (Form.var n) 0 ps) u) [
      | inl o ↦ own_use V vals at n s h o
      | inr o ↦ absurd (lazy n (k o))
    ]
  where
    lazy : (n : ℕ) → Lacking (Form.var n) 0 (part_values V vals qs) → ⊥
    lazy n r = let e : false ≡ true = r.1 in cc
subst_node-undefined V vals at s h (Form.global n) ps qs k u = lacking-node V vals (Form.global n) (part_values V vals qs) (k (omega (arith, u)))
subst_node-undefined V vals at s h Form.bind ps qs k u = lacking-node V vals Form.bind (part_values V vals qs) (k (omega (arith, u)))
subst_node-undefined V vals at s h Form.choose ps qs k u = lacking-node V vals Form.choose (part_values V vals qs) (k (omega (arith, u)))
subst_node-undefined V vals at s h Form.default ps qs k u = lacking-node V vals Form.default (part_values V vals qs) (k (omega (arith, u)))
subst_node-undefined V vals at s h Form.big_union ps qs k u = lacking-node V vals Form.big_union (part_values V vals qs) (k (omega (arith, u)))
subst_node-undefined V vals at s h Form.sum ps qs k u = lacking-node V vals Form.sum (part_values V vals qs) (k (omega (arith, u)))
subst_node-undefined V vals at s h (Form.tab rank) ps qs k u = lacking-node V vals (Form.tab rank) (part_values V vals qs) (k (omega (arith, u)))
subst_node-undefined V vals at s h (Form.strict c) ps qs k u = lacking-node V vals (Form.strict c) (part_values V vals qs) (k (omega (arith, u)))

-- where the term put in has no value, and a use of the variable is reached by strict parts alone
mutual
  pub cden-subst_term-undefined : (V : Outcomes) (pre post : List Datum) (s : Term) → cden V (pre ++ post) s ≡ None → (t : Term) → 1 ≤ strict_uses (length pre) t →
      cden V (pre ++ post) (subst_term (length pre) s t) ≡ None
  cden-subst_term-undefined V pre post s h (node f ps) u =
      subst_node-undefined V (pre ++ post) (length pre) s h f ps (subst_parts (length pre) s ps) (λ p. parts-undefined V pre post s h f 0 ps p) u

  parts-undefined : (V : Outcomes) (pre post : List Datum) (s : Term) → cden V (pre ++ post) s ≡ None → (f : Form) (i : ℕ) (ps : Parts) → 1 ≤ parts_strict_uses (length pre) f i ps →
      Lacking f i (part_values V (pre ++ post) (subst_parts (length pre) s ps))
  parts-undefined V pre post s h f i none u = absurd (omega (arith, u))
  parts-undefined V pre post s h f i (part k t ps) u =
      lacking-part f i (strict_uses (length pre + k) t) (parts_strict_uses (length pre) f (suc i) ps) _ (part_values V (pre ++ post) (subst_parts (length pre) s ps)) (is_strict f i) refl
      (λ o. at_length-worthless k (λ vs. cden V (vs ++ (pre ++ post)) (subst_term (length pre + k) (shift_term 0 k s) t)) (λ vs e.
      ap (λ n. cden V (vs ++ (pre ++ post)) (subst_term n (shift_term 0 k s) t)) (under vs pre k e)
      ∙ ap (λ l. cden V l (subst_term (length (vs ++ pre)) (shift_term 0 k s) t)) (sym (append_assoc vs pre post))
      ∙ cden-subst_term-undefined V (vs ++ pre) post (shift_term 0 k s) (moved V pre post s h k vs e) t (more vs e o)))
      (λ p. parts-undefined V pre post s h f (suc i) ps p)
      u
    where
      more : (vs : List Datum) → length vs ≡ k → 1 ≤ strict_uses (length pre + k) t → 1 ≤ strict_uses (length (vs ++ pre)) t
      more vs e o = omega (arith, o, ap (λ n. strict_uses n t) (under vs pre k e))

      moved : (V : Outcomes) (pre post : List Datum) (s : Term) → cden V (pre ++ post) s ≡ None → (k : ℕ) (vs : List Datum) → length vs ≡ k → cden V ((vs ++ pre) ++ post) (shift_term 0 k s) ≡ None
      moved V pre post s h k vs e =
          ap (λ l. cden V l (shift_term 0 k s)) (append_assoc vs pre post)
          ∙ ap (λ n. cden V (vs ++ (pre ++ post)) (shift_term 0 n s)) (sym e)
          ∙ cden-shift_term V [] vs (pre ++ post) s
          ∙ h
