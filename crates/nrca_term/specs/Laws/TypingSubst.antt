-- Substitution keeps every type, and typed terms are well formed.
use Rattle.std.proofs.Common.{◌≡◌, ℕ, suc, ◌+◌, ◌-◌, ◌<◌, ◌≤◌, false, nat_eq, List, [], ◌∷◌, ◌++◌, length, Some, refl, sym, ap, subst, ◌∙◌, arith, append_assoc, inl, inr}
use Rattle.std.specs.List.{slice_get}
use Rattle.std.proofs.lemmas.Bool.{cases_Bool, cases_lt, lt-ltb, le-ltb, eqb-true, eqb-false}
use Rattle.aql_value.specs.Laws.Lists.{slice_get-append_left, slice_get-append_right}
use Rattle.aql_ty.specs.Types.{Ty, IsType}
use Rattle.nrca_term.specs.Term.{Term, Parts, node, none, part, Form}
use Rattle.nrca_term.specs.Typing.{Arg, form_rule, ctyped, parts_typed}
use Rattle.nrca_term.specs.Laws.TypingShift.{ctyped-shift_term, under_types}
use Rattle.nrca_term.specs.Subst.{shift_term, subst_var, subst_node, subst_term, subst_parts}

-- a typed term's type is a type
pub ctyped-type : (G : ℕ → Ty → Type 0) (env : List Ty) (t : Term) (T : Ty) → ctyped G env t T → IsType T
ctyped-type G env (node f ps) T c = c.0

var-typed : (G : ℕ → Ty → Type 0) (pre post : List Ty) (s : Term) (A T : Ty) (i : ℕ) → IsType T → ctyped G (pre ++ post) s A → slice_get (pre ++ (A ∷ post)) i ≡ Some T → ctyped G (pre ++ post) (subst_var (length pre) s i) T
var-typed G pre post s A T i y c e =
    elim (cases_lt i (length pre)) [
      | inl l ↦ rw (lt-ltb i (length pre) l) (y, [], (refl, slice_get-append_left pre post i l ∙ sym (slice_get-append_left pre (A ∷ post) i l) ∙ e), refl)
      | inr l ↦ rw (le-ltb i (length pre) l) (elim (cases_Bool (nat_eq i (length pre))) [
        | inl q ↦ rw q (same (let z : i - length pre ≡ 0 = omega (arith, eqb-true i (length pre) q) in ap (slice_get (A ∷ post)) (sym z) ∙ sym (slice_get-append_right pre (A ∷ post) i l) ∙ e))
        | inr q ↦ rw q (y, [], (refl, slice_get-append_right pre post (i - 1) (omega (arith, apart l q)) ∙ beyond (apart l q) ∙ sym (slice_get-append_right pre (A ∷ post) i l) ∙ e), refl)
      ])
    ]
  where
    same : Some A ≡ Some T → ctyped G (pre ++ post) s T
    same k = let z : A ≡ T = cc in subst (ctyped G (pre ++ post) s) z c

    apart : length pre ≤ i → nat_eq i (length pre) ≡ false → length pre < i
    apart l q = omega (arith, eqb-false)

    beyond : length pre < i → slice_get post (i - 1 - length pre) ≡ slice_get (A ∷ post) (i - length pre)
    beyond l = let z : suc (i - 1 - length pre) ≡ i - length pre = omega arith in ap (slice_get (A ∷ post)) z

node-typed : (G : ℕ → Ty → Type 0) (pre post : List Ty) (s : Term) (A T : Ty) (f : Form) (args : List Arg) (qs : Parts) → IsType T → ctyped G (pre ++ post) s A → form_rule G (pre ++ (A ∷ post)) f args T →
    parts_typed G (pre ++ post) qs args → ctyped G (pre ++ post) (subst_node (length pre) s f qs) T
node-typed G pre post s A T (Form.var i) args qs y c r p = var-typed G pre post s A T i y c r.1
node-typed G pre post s A T (Form.global n) args qs y c r p = (y, args, r, p)
node-typed G pre post s A T Form.bind args qs y c r p = (y, args, r, p)
node-typed G pre post s A T Form.choose args qs y c r p = (y, args, r, p)
node-typed G pre post s A T Form.default args qs y c r p = (y, args, r, p)
node-typed G pre post s A T Form.big_union args qs y c r p = (y, args, r, p)
node-typed G pre post s A T Form.sum args qs y c r p = (y, args, r, p)
node-typed G pre post s A T (Form.tab rank) args qs y c r p = (y, args, r, p)
node-typed G pre post s A T (Form.strict x) args qs y c r p = (y, args, r, p)

mutual
  pub ctyped-subst_term : (G : ℕ → Ty → Type 0) (pre post : List Ty) (s : Term) (A : Ty) → ctyped G (pre ++ post) s A → (t : Term) (T : Ty) → ctyped G (pre ++ (A ∷ post)) t T →
      ctyped G (pre ++ post) (subst_term (length pre) s t) T
  ctyped-subst_term G pre post s A c (node f ps) T t = node-typed G pre post s A T f t.1 (subst_parts (length pre) s ps) t.0 c t.2 (parts-subst G pre post s A c ps t.1 t.3)

  parts-subst : (G : ℕ → Ty → Type 0) (pre post : List Ty) (s : Term) (A : Ty) → ctyped G (pre ++ post) s A → (ps : Parts) (args : List Arg) → parts_typed G (pre ++ (A ∷ post)) ps args →
      parts_typed G (pre ++ post) (subst_parts (length pre) s ps) args
  parts-subst G pre post s A c none args h = h
  parts-subst G pre post s A c (part k t ps) args h = (
    h.0,
    h.1,
    h.2,
    h.3,
    subst (λ n. ctyped G (h.0.own ++ (pre ++ post)) (subst_term n (shift_term 0 k s) t) h.0.has) (under_types h.0.own pre k h.3)
        (subst (λ env. ctyped G env (subst_term (length (h.0.own ++ pre)) (shift_term 0 k s) t) h.0.has) (append_assoc h.0.own pre post)
        (ctyped-subst_term G (h.0.own ++ pre) post (shift_term 0 k s) A
        (subst (λ env. ctyped G env (shift_term 0 k s) A) (sym (append_assoc h.0.own pre post)) (subst (λ n. ctyped G (h.0.own ++ (pre ++ post)) (shift_term 0 n s) A) h.3 (ctyped-shift_term G [] h.0.own (pre ++ post) s A c)))
        t h.0.has
        (subst (λ env. ctyped G env t h.0.has) (sym (append_assoc h.0.own pre (A ∷ post))) h.4))),
    parts-subst G pre post s A c ps h.1 h.5,
  )
