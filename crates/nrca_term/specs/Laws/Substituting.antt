-- Substitution of a term that has a value is the meaning with that value put in.
use Rattle.std.proofs.Common.{◌≡◌, ℕ, suc, ◌-◌, ◌<◌, ◌≤◌, false, nat_eq, List, [], ◌∷◌, ◌++◌, length, Some, slice_get, refl, sym, ap, ◌∙◌, arith, append_assoc, inl, inr}
use Rattle.std.proofs.lemmas.Bool.{cases_lt, cases_Bool, lt-ltb, le-ltb, eqb-true, eqb-false}
use Rattle.aql_value.specs.Datum.{Datum}
use Rattle.aql_value.specs.Laws.Lists.{slice_get-append_left, slice_get-append_right}
use Rattle.nrca_term.specs.Term.{Term, Parts, node, none, part, Form}
use Rattle.nrca_term.specs.Meaning.{Outcomes, form_value, at_length, cden, part_values}
use Rattle.nrca_term.specs.Subst.{shift_term, subst_var, subst_node, subst_term, subst_parts}
use Rattle.nrca_term.specs.Laws.Shifting.{at_length-ext, cden-shift_term, under}

cden-subst_var : (V : Outcomes) (pre post : List Datum) (v : Datum) (s : Term) → cden V (pre ++ post) s ≡ Some v → (i : ℕ) →
    cden V (pre ++ post) (subst_var (length pre) s i) ≡ slice_get (pre ++ (v ∷ post)) i
cden-subst_var V pre post v s h i =
    elim (cases_lt i (length pre)) [
      | inl l ↦ rw (lt-ltb i (length pre) l) (slice_get-append_left pre post i l ∙ sym (slice_get-append_left pre (v ∷ post) i l))
      | inr l ↦ rw (le-ltb i (length pre) l) (elim (cases_Bool (nat_eq i (length pre))) [
        | inl e ↦ rw e (h ∙ sym (slice_get-append_right pre (v ∷ post) i l ∙ at_here (eqb-true i (length pre) e)))
        | inr e ↦ rw e (slice_get-append_right pre post (i - 1) (omega (arith, apart l e)) ∙ sym (slice_get-append_right pre (v ∷ post) i l ∙ beyond (apart l e)))
      ])
    ]
  where
    apart : length pre ≤ i → nat_eq i (length pre) ≡ false → length pre < i
    apart l e = omega (arith, eqb-false)

    at_here : i ≡ length pre → slice_get (v ∷ post) (i - length pre) ≡ Some v
    at_here e = let z : i - length pre ≡ 0 = omega arith in ap (slice_get (v ∷ post)) z

    beyond : length pre < i → slice_get (v ∷ post) (i - length pre) ≡ slice_get post (i - 1 - length pre)
    beyond l = let z : i - length pre ≡ suc (i - 1 - length pre) = omega arith in ap (slice_get (v ∷ post)) z

cden-subst_node : (V : Outcomes) (pre post : List Datum) (v : Datum) (s : Term) → cden V (pre ++ post) s ≡ Some v → (f : Form) (qs ps : Parts) →
    part_values V (pre ++ post) qs ≡ part_values V (pre ++ (v ∷ post)) ps →
    cden V (pre ++ post) (subst_node (length pre) s f qs) ≡ form_value V (pre ++ (v ∷ post)) f (part_values V (pre ++ (v ∷ post)) ps)
cden-subst_node V pre post v s h (Form.var i) qs ps e = cden-subst_var V pre post v s h i
cden-subst_node V pre post v s h (Form.global n) qs ps e = refl
cden-subst_node V pre post v s h Form.bind qs ps e = ap (form_value V (pre ++ post) Form.bind) e
cden-subst_node V pre post v s h Form.choose qs ps e = ap (form_value V (pre ++ post) Form.choose) e
cden-subst_node V pre post v s h Form.default qs ps e = ap (form_value V (pre ++ post) Form.default) e
cden-subst_node V pre post v s h Form.big_union qs ps e = ap (form_value V (pre ++ post) Form.big_union) e
cden-subst_node V pre post v s h Form.sum qs ps e = ap (form_value V (pre ++ post) Form.sum) e
cden-subst_node V pre post v s h (Form.tab rank) qs ps e = ap (form_value V (pre ++ post) (Form.tab rank)) e
cden-subst_node V pre post v s h (Form.strict c) qs ps e = ap (form_value V (pre ++ post) (Form.strict c)) e

mutual
  pub cden-subst_term : (V : Outcomes) (pre post : List Datum) (v : Datum) (s : Term) → cden V (pre ++ post) s ≡ Some v → (t : Term) →
      cden V (pre ++ post) (subst_term (length pre) s t) ≡ cden V (pre ++ (v ∷ post)) t
  cden-subst_term V pre post v s h (node f ps) = cden-subst_node V pre post v s h f (subst_parts (length pre) s ps) ps (part_values-subst_parts V pre post v s h ps)

  part_values-subst_parts : (V : Outcomes) (pre post : List Datum) (v : Datum) (s : Term) → cden V (pre ++ post) s ≡ Some v → (ps : Parts) →
      part_values V (pre ++ post) (subst_parts (length pre) s ps) ≡ part_values V (pre ++ (v ∷ post)) ps
  part_values-subst_parts V pre post v s h none = refl
  part_values-subst_parts V pre post v s h (part k t ps) =
      ap (λ p. p ∷ part_values V (pre ++ post) (subst_parts (length pre) s ps))
      (at_length-ext k _ _ (λ vs e.
      ap (λ n. cden V (vs ++ (pre ++ post)) (subst_term n (shift_term 0 k s) t)) (under vs pre k e)
      ∙ ap (λ l. cden V l (subst_term (length (vs ++ pre)) (shift_term 0 k s) t)) (sym (append_assoc vs pre post))
      ∙ cden-subst_term V (vs ++ pre) post v (shift_term 0 k s) (moved vs e) t
      ∙ ap (λ l. cden V l t) (append_assoc vs pre (v ∷ post))))
      ∙ ap (λ l. at_length k (λ vs. cden V (vs ++ (pre ++ (v ∷ post))) t) ∷ l) (part_values-subst_parts V pre post v s h ps)
    where
      moved : (vs : List Datum) → length vs ≡ k → cden V ((vs ++ pre) ++ post) (shift_term 0 k s) ≡ Some v
      moved vs e =
          ap (λ l. cden V l (shift_term 0 k s)) (append_assoc vs pre post)
          ∙ ap (λ n. cden V (vs ++ (pre ++ post)) (shift_term 0 n s)) (sym e)
          ∙ cden-shift_term V [] vs (pre ++ post) s
          ∙ h
