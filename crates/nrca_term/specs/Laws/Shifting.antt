-- Shifting keeps the value, the turns and the ways in when values are put in.
use Rattle.std.proofs.Common.{◌≡◌, ℕ, ◌+◌, ◌-◌, nat_lt, nat_eq, List, [], ◌∷◌, ◌++◌, length, slice_get, if◌then◌else◌, refl, sym, ap, ◌∙◌, arith, append_assoc, length-append, inl, inr}
use Rattle.std.proofs.Math.Path.{fun_ext}
use Rattle.std.proofs.lemmas.Bool.{cases_lt, cases_Bool, lt-ltb, le-ltb, eqb-true}
use Rattle.aql_value.specs.Datum.{Datum}
use Rattle.aql_value.specs.Laws.Lists.{slice_get-append_left, slice_get-append_right}
use Rattle.nrca_term.specs.Term.{Term, Parts, node, none, part, Form}
use Rattle.nrca_term.specs.Meaning.{Outcomes, Part, form_value, at_length, cden, part_values}
use Rattle.nrca_term.specs.Subst.{shift_form, shift_term, shift_parts}

-- where elements are put in, each of the others is found again
pub slice_get-shift : {X : Type 0} (pre new post : List X) (i : ℕ) →
    slice_get (pre ++ (new ++ post)) (if nat_lt i (length pre) then i else i + length new) ≡ slice_get (pre ++ post) i
slice_get-shift pre new post i =
    elim (cases_lt i (length pre)) [
      | inl h ↦ rw (lt-ltb i (length pre) h) (slice_get-append_left pre (new ++ post) i h ∙ sym (slice_get-append_left pre post i h))
      | inr h ↦ rw (le-ltb i (length pre) h)
          (let e : (i + length new) - length pre - length new ≡ i - length pre = omega arith in
          slice_get-append_right pre (new ++ post) (i + length new) (omega arith)
          ∙ slice_get-append_right new post ((i + length new) - length pre) (omega arith)
          ∙ ap (slice_get post) e
          ∙ sym (slice_get-append_right pre post i h))
    ]

form_value-shift_form : (V : Outcomes) (pre new post : List Datum) (f : Form) (ps : List Part) →
    form_value V (pre ++ (new ++ post)) (shift_form (length pre) (length new) f) ps ≡ form_value V (pre ++ post) f ps
form_value-shift_form V pre new post (Form.var i) ps = slice_get-shift pre new post i
form_value-shift_form V pre new post (Form.global n) ps = refl
form_value-shift_form V pre new post Form.bind ps = refl
form_value-shift_form V pre new post Form.choose ps = refl
form_value-shift_form V pre new post Form.default ps = refl
form_value-shift_form V pre new post Form.big_union ps = refl
form_value-shift_form V pre new post Form.sum ps = refl
form_value-shift_form V pre new post (Form.tab rank) ps = refl
form_value-shift_form V pre new post (Form.strict s) ps = refl

-- two parts are alike where they agree at lists of the right length
pub at_length-ext : (k : ℕ) (f g : Part) → ((vs : List Datum) → length vs ≡ k → f vs ≡ g vs) → at_length k f ≡ at_length k g
at_length-ext k f g h =
    fun_ext (λ vs. elim (cases_Bool (nat_eq (length vs) k)) [
      | inl e ↦ rw e (h vs (eqb-true (length vs) k e))
      | inr e ↦ rw e
    ])

pub under : {A : Type 0} (vs pre : List A) (k : ℕ) → length vs ≡ k → length pre + k ≡ length (vs ++ pre)
under vs pre k e = omega (arith, length-append vs pre)

mutual
  pub cden-shift_term : (V : Outcomes) (pre new post : List Datum) (t : Term) →
      cden V (pre ++ (new ++ post)) (shift_term (length pre) (length new) t) ≡ cden V (pre ++ post) t
  cden-shift_term V pre new post (node f ps) =
      ap (form_value V (pre ++ (new ++ post)) (shift_form (length pre) (length new) f)) (part_values-shift_parts V pre new post ps)
      ∙ form_value-shift_form V pre new post f (part_values V (pre ++ post) ps)

  pub part_values-shift_parts : (V : Outcomes) (pre new post : List Datum) (ps : Parts) →
      part_values V (pre ++ (new ++ post)) (shift_parts (length pre) (length new) ps) ≡ part_values V (pre ++ post) ps
  part_values-shift_parts V pre new post none = refl
  part_values-shift_parts V pre new post (part k t ps) =
      ap (λ p. p ∷ part_values V (pre ++ (new ++ post)) (shift_parts (length pre) (length new) ps))
      (at_length-ext k _ _ (λ vs e.
      ap (λ n. cden V (vs ++ (pre ++ (new ++ post))) (shift_term n (length new) t)) (under vs pre k e)
      ∙ ap (λ l. cden V l (shift_term (length (vs ++ pre)) (length new) t)) (sym (append_assoc vs pre (new ++ post)))
      ∙ cden-shift_term V (vs ++ pre) new post t
      ∙ ap (λ l. cden V l t) (append_assoc vs pre post)))
      ∙ ap (λ l. at_length k (λ vs. cden V (vs ++ (pre ++ post)) t) ∷ l) (part_values-shift_parts V pre new post ps)

-- values put in before all others
pub cden-shifted : (V : Outcomes) (new vals : List Datum) (t : Term) → cden V (new ++ vals) (shift_term 0 (length new) t) ≡ cden V vals t
cden-shifted V new vals t = cden-shift_term V [] new vals t
